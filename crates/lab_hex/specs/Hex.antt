-- Hexadecimal words as text, and the image that a text of them says.
use Rattle.std.specs.Prelude.{ℕ, ◌+◌, nat_lt, if◌then◌else◌, Bool, List, [], ◌∷◌, length, position, is_none, Option, Some, None, Result, Ok, Err}
use Rattle.std.specs.List.{filter_map}
use Rattle.lc3_word.specs.Numbers.{unsigned_number, is_x}
use Rattle.lc3_word.specs.Segment.{Segment, first_device}
use Rattle.lab_sched.specs.ScheduleTexts.{words}
use Rattle.lab_hex.specs.declared.run.CliFault.{CliFault}
use Rattle.lab_hex.specs.declared.run.CliFault.TheVariants.{BadWord, Empty, TooLong}

-- what stands after an optional `x`
abbrev pub digits_of : List ℕ → List ℕ
digits_of [] = []
digits_of (b ∷ bs) = if is_x b then bs else (b ∷ bs)

-- the number of a word of one to four hexadecimal digits after an optional `x`
abbrev pub number_of : List ℕ → Option ℕ
number_of word = let digits = digits_of word in if nat_lt 4 (length digits) then None else unsigned_number 16 digits

-- whether a word is no number
abbrev pub is_bad : List ℕ → Bool
is_bad word = is_none (number_of word)

-- the first of the numbers is the origin
abbrev pub segment_of : List ℕ → Result Segment CliFault
segment_of [] = Err Empty
segment_of (origin ∷ rest) = if nat_lt first_device (origin + length rest) then Err TooLong else Ok (record { origin = origin; words = rest })

-- the numbers of words, unless one of them is bad: then the first bad one, counted from 1
abbrev pub numbers_of : List (List ℕ) → Result (List ℕ) CliFault
numbers_of ws = unless_bad (position is_bad ws)
  where
    unless_bad : Option ℕ → Result (List ℕ) CliFault
    unless_bad (Some n) = Err (BadWord (n + 1))
    unless_bad None = Ok (filter_map number_of ws)

-- the image that a text of hexadecimal words says, or its first fault
unfoldable pub image_of : List ℕ → Result Segment CliFault
image_of text = then_segment (numbers_of (words text))
  where
    then_segment : Result (List ℕ) CliFault → Result Segment CliFault
    then_segment (Ok numbers) = segment_of numbers
    then_segment (Err fault) = Err fault
