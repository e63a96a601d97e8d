-- How the values of `--require` are cut into words.
use Rattle.std.specs.Prelude.{ℕ, ◌==◌, ◌&&◌, ◌||◌, nat_eq, nat_le, not, Bool, false, if◌then◌else◌, Option, Some, None, drop, position, List, [], ◌∷◌, ◌++◌, codes, filter, flat_map}
use Rattle.std.specs.List.{starts_with}
use Rattle.lab_arguments.specs.declared.pieces.Place.{Place}
use Rattle.lab_arguments.specs.declared.pieces.Place.TheVariants.{Outside, Between, Escaped}

-- where the byte stands that follows this one
abbrev pub behind : Place → ℕ → Place
behind Outside c = if c == 34 then Between else Outside
behind Between c = if c == 34 then Outside else if c == 92 then Escaped else Between
behind Escaped c = Between

-- whether a byte is a comma outside of quotes
abbrev pub cuts : Place → ℕ → Bool
cuts Outside c = c == 44
cuts Between c = false
cuts Escaped c = false

-- the pieces of a text between such commas, where this one has begun
abbrev pub pieces_from : Place → List ℕ → List ℕ → List (List ℕ)
pieces_from place piece [] = piece ∷ []
pieces_from place piece (c ∷ cs) =
    if cuts place c then piece ∷ pieces_from Outside [] cs
    else pieces_from (behind place c) (piece ++ c ∷ []) cs

-- the pieces of a text between its commas outside of quotes
abbrev pub cut_pieces : List ℕ → List (List ℕ)
cut_pieces text = pieces_from Outside [] text

-- whether a byte is no decimal digit
abbrev pub is_no_digit : ℕ → Bool
is_no_digit c = not (nat_le 48 c && nat_le c 57)

-- whether a byte is no blank
abbrev pub is_no_blank : ℕ → Bool
is_no_blank c = not (c == 32)

-- a text from a place on, if there is one
abbrev pub from : Option ℕ → List ℕ → List ℕ
from None text = []
from (Some i) text = drop i text

-- a text behind the digits, or the blanks, with which it begins
abbrev pub behind_digits : List ℕ → List ℕ
behind_digits text = from (position is_no_digit text) text

abbrev pub behind_blanks : List ℕ → List ℕ
behind_blanks text = from (position is_no_blank text) text

-- a text says what is asked of calls: behind a process or none, and blanks, it begins with `calls` or `holds`, and a blank
abbrev pub is_of_calls : List ℕ → Bool
is_of_calls text =
    let words = behind_blanks (behind_digits (behind_blanks text)) in
    starts_with nat_eq words (codes "calls ") || starts_with nat_eq words (codes "holds ")

-- a piece says what is required of an output: it begins with `out` and a blank
abbrev pub is_output : List ℕ → Bool
is_output piece = starts_with nat_eq piece (codes "out ")

-- the other pieces of a value, unless it asks of calls
abbrev pub words_of : List ℕ → List (List ℕ)
words_of value = if is_of_calls value then [] else filter (λ piece. not (is_output piece)) (cut_pieces value)

-- the words of some values
abbrev pub words_in : List (List ℕ) → List (List ℕ)
words_in values = flat_map words_of values
