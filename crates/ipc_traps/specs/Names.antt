-- What a call reads from the memory of the process that makes it.
use Rattle.std.specs.Prelude.{ℕ, ◌+◌, ◌==◌, ◌&&◌, ◌||◌, Bool, List, length, take, nat_le, nat_lt}
use Rattle.std.specs.List.{position_or_len}
use Rattle.lc3_machine.specs.Console.{words_from}
use Rattle.lc3_word.specs.Segment.{first_device}
use Rattle.ipc_names.specs.Name.{name_max}

-- whether a range lies below the device registers; one of no words always does
abbrev pub is_in_memory : ℕ → ℕ → Bool
is_in_memory at len = (len == 0) || nat_le (at + len) first_device

-- the words of a range
abbrev pub words_at : List ℕ → ℕ → ℕ → List ℕ
words_at memory at len = take len (words_from memory at)

-- how many words are looked at for a name, at most: one more than a name has
abbrev pub window_max : ℕ
window_max = name_max + 1

-- the words that are looked at for a name, below the device registers
unfoldable pub window : List ℕ → ℕ → List ℕ
window memory at = take window_max (words_from memory at)

-- how many of them stand before the first zero word
unfoldable pub name_length : List ℕ → ℕ → ℕ
name_length memory at = position_or_len (λ w. w == 0) (window memory at)

-- whether a name reaches the device registers before a zero word, and before so many others
unfoldable pub reaches_devices : List ℕ → ℕ → Bool
reaches_devices memory at = (name_length memory at == length (window memory at)) && nat_lt (name_length memory at) window_max

-- the words of a name
abbrev pub name_words : List ℕ → ℕ → List ℕ
name_words memory at = words_at memory at (name_length memory at)
