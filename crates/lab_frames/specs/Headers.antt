-- A header line, and the length that it names.
use Rattle.std.specs.Prelude.{ℕ, ◌+◌, ◌-◌, ◌*◌, ◌^◌, ◌==◌, ◌&&◌, ◌||◌, nat_lt, not, if◌then◌else◌, Bool, Option, Some, None, List, [], ◌∷◌, length, take, drop, map, codes, bytes_eq}
use Rattle.std.specs.List.{prefix_len, position_or_len}
use Rattle.std.specs.Char.{to_ascii_lowercase, is_ascii_digit}
use Rattle.lab_frames.specs.declared.header.Field.{Field}
use Rattle.lab_frames.specs.declared.header.Field.TheVariants.{Length, Other, Bad}

abbrev pub is_blank : ℕ → Bool
is_blank b = b == 32 || b == 9

abbrev pub is_text : ℕ → Bool
is_text b = not (is_blank b)

-- the number that digits write after those of n; it has at most 15 digits
unfoldable pub number_after : ℕ → List ℕ → Option ℕ
number_after n [] = Some n
number_after n (d ∷ ds) = if is_ascii_digit d && nat_lt n (10 ^ 14) then number_after (n * 10 + (d - 48)) ds else None

-- a number as a length
abbrev pub as_length : Option ℕ → Field
as_length None = Bad
as_length (Some n) = Length n

-- the length that a word is, where only blanks come after it
abbrev pub length_of_word : List ℕ → List ℕ → Field
length_of_word word behind =
    if length word == 0 || nat_lt (prefix_len is_blank behind) (length behind) then Bad else as_length (number_after 0 word)

-- the length that a value is, which begins with no blank
abbrev pub length_begun : List ℕ → Field
length_begun value = length_of_word (take (prefix_len is_text value) value) (drop (prefix_len is_text value) value)

-- the length that a value is, in which blanks may stand around the number
unfoldable pub length_named : List ℕ → Field
length_named value = length_begun (drop (prefix_len is_blank value) value)

-- whether a header has this name, in either case
unfoldable pub names_length : List ℕ → Bool
names_length name = bytes_eq (map to_ascii_lowercase name) (map to_ascii_lowercase (codes "content-length"))

-- what a line says whose name ends at place n, from 0, if a colon is there
abbrev pub field_at : ℕ → List ℕ → Field
field_at n line =
    if nat_lt n (length line)
    then (if names_length (take n line) then length_named (drop (n + 1) line) else Other)
    else Bad

-- what a header line says: its name ends at the first colon
unfoldable pub field_of : List ℕ → Field
field_of line = field_at (position_or_len (λ b. b == 58) line) line
