-- Words with labels as addresses.
use Rattle.std.specs.Prelude.{ℕ, ◌+◌, ◌==◌, nat_le, if◌then◌else◌, Bool, Option, Some, None, List, length, take, drop, position, slice_get}
use Rattle.std.specs.Option.{option_and_then}
use Rattle.lc3_word.specs.Numbers.{unsigned_number}
use Rattle.lc3_table.specs.Words.{is_label}
use Rattle.lab_sources.specs.Labels.{address_of}
use Rattle.lab_sources.specs.declared.source.Source.{Source}

-- whether a byte is `+`
abbrev pub is_plus : ℕ → Bool
is_plus c = c == 43

-- a number that is an address
abbrev pub in_memory : ℕ → Option ℕ
in_memory n = if nat_le n 65535 then Some n else None

-- 1 to 5 decimal digits, at most 65535
unfoldable pub count_in : List ℕ → Option ℕ
count_in digits = if nat_le (length digits) 5 then option_and_then in_memory (unsigned_number 10 digits) else None

-- a word that can be a label, and a number
abbrev pub named : List ℕ → ℕ → Option (List ℕ × ℕ)
named name n = if is_label name then Some (name, n) else None

-- a word whose first `+` stands here, or that has none
abbrev pub label_split : Option ℕ → List ℕ → Option (List ℕ × ℕ)
label_split None word = named word 0
label_split (Some plus) word = option_and_then (λ n. named (take plus word) n) (count_in (drop (plus + 1) word))

-- a label, or a label, `+` and how many words behind it
unfoldable pub label_in : List ℕ → Option (List ℕ × ℕ)
label_in word = label_split (position is_plus word) word

-- the address of a label, or so many words behind it
abbrev pub behind : List (List ℕ × ℕ) → List ℕ × ℕ → Option ℕ
behind labels l = option_and_then (λ a. in_memory (a + l.1)) (address_of labels l.0)

-- the address that a word stands for by these labels
abbrev pub labelled : List (List ℕ × ℕ) → List ℕ → Option ℕ
labelled labels word = option_and_then (behind labels) (label_in word)

-- the address that a word stands for in a source
abbrev pub in_source : List ℕ → Option Source → Option ℕ
in_source word None = None
in_source word (Some s) = labelled s.assembled.symbols word

-- the source of process p, where it was given as one
abbrev pub source_of : List (Option Source) → ℕ → Option Source
source_of sources p = option_and_then (λ s. s) (slice_get sources p)

-- the address that a word stands for in process p, by the labels of its own source
abbrev pub address_in : List (Option Source) → ℕ → List ℕ → Option ℕ
address_in sources p word = in_source word (source_of sources p)
