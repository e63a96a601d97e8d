-- Status lines, as they are read.
use Rattle.std.specs.Prelude.{ℕ, ◌+◌, ◌==◌, ◌||◌, ◌&&◌, not, if◌then◌else◌, Bool, Option, Some, None, List, [], ◌∷◌, codes, take, drop, position}
use Rattle.std.specs.Option.{option_map, option_and_then}
use Rattle.std.specs.Str.{bytes_eq}
use Rattle.lc3_word.specs.Numbers.{unsigned_number}
use Rattle.lab_places.specs.Labels.{in_memory}

-- a process that stands at an address, and what is shown behind it: the text of the word there, or how the process ended
pub record StandingSeen : Type 0 where
  pub pid : ℕ
  pub address : ℕ
  pub shown : List ℕ

-- whether a byte is a blank
abbrev pub is_blank : ℕ → Bool
is_blank c = c == 32

-- a text up to a blank, and what is behind that
abbrev pub cut_at : Option ℕ → List ℕ → Option (List ℕ × List ℕ)
cut_at None text = None
cut_at (Some blank) text = Some (take blank text, drop (blank + 1) text)

-- the first word of a text, and what is behind the blank after it
unfoldable pub first_word : List ℕ → Option (List ℕ × List ℕ)
first_word text = cut_at (position is_blank text) text

-- whether a word is this one
unfoldable pub is_word : List ℕ → List ℕ → Bool
is_word name word = bytes_eq name word

-- whether a process in this state stands at what it does next, or at what it crashed at; one that ended by HALT stands behind it
abbrev pub stands : List ℕ → List ℕ → Bool
stands state shown =
    is_word (codes "running") state || is_word (codes "waiting") state || is_word (codes "ended") state && not (is_word (codes "halt") shown)

-- the number of a process
abbrev pub process_in : List ℕ → Option ℕ
process_in word = option_and_then in_memory (unsigned_number 10 word)

-- the address behind `x`
abbrev pub place_in : List ℕ → Option ℕ
place_in [] = None
place_in (c ∷ digits) = if c == 120 then option_and_then in_memory (unsigned_number 16 digits) else None

-- a process in this state, by its address and what is shown behind it
abbrev pub located : ℕ → List ℕ → List ℕ × List ℕ → Option StandingSeen
located p state w =
    if stands state w.1 then option_map (λ a. record { pid = p; address = a; shown = w.1 }) (place_in w.0) else None

-- a process by its state, and what is behind that
abbrev pub in_state : ℕ → List ℕ × List ℕ → Option StandingSeen
in_state p w = option_and_then (located p w.0) (first_word w.1)

-- a process by what is behind its number
abbrev pub of_process : List ℕ → ℕ → Option StandingSeen
of_process rest p = option_and_then (in_state p) (first_word rest)

-- a process by its number, and what is behind that
abbrev pub by_number : List ℕ × List ℕ → Option StandingSeen
by_number w = option_and_then (of_process w.1) (process_in w.0)

-- where a line says that a process stands: `P running A TEXT`, `P waiting A TEXT`, or `P ended A HOW`
unfoldable pub standing_in : List ℕ → Option StandingSeen
standing_in line = option_and_then by_number (first_word line)
