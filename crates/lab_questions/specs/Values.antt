-- Values of JSON.
use Rattle.std.specs.Prelude.{ℕ, ◌/◌, ◌%◌, ◌==◌, ◌&&◌, nat_le, if◌then◌else◌, Bool, false, List, [], ◌∷◌, ◌++◌, codes, flat_map}
use Rattle.std.specs.Fmt.{digit_glyph}
use Rattle.lab_sched.specs.declared.schedule.Block.{Block}
use Rattle.lab_sched.specs.ScheduleTexts.{schedule_text}

-- a character by its number, as `\u00` and two hexadecimal digits
abbrev pub number_json : ℕ → List ℕ
number_json c = codes "\\u00" ++ digit_glyph false (c / 16) ∷ digit_glyph false (c % 16) ∷ []

-- a character in a text: `"` and `\` behind a `\`, x20 to x7E as they are, any other by its number
unfoldable pub character_json : ℕ → List ℕ
character_json c =
    if c == 34 then codes "\\\"" else
    if c == 92 then codes "\\\\" else
    if nat_le 32 c && nat_le c 126 then c ∷ [] else
    number_json c

-- the text of characters of these numbers
unfoldable pub text_json : List ℕ → List ℕ
text_json characters = codes "\"" ++ flat_map character_json characters ++ codes "\""

-- the text of a schedule
abbrev pub schedule_json : List Block → List ℕ
schedule_json blocks = text_json (schedule_text blocks)

-- a truth
abbrev pub truth_json : Bool → List ℕ
truth_json truth = if truth then codes "true" else codes "false"

-- values behind others, each behind a comma
abbrev pub further_json : List (List ℕ) → List ℕ
further_json values = flat_map (λ value. codes "," ++ value) values

-- the values of a list, with commas between them
abbrev pub values_json : List (List ℕ) → List ℕ
values_json [] = []
values_json (value ∷ values) = value ++ further_json values

-- an array of these values
abbrev pub array_json : List (List ℕ) → List ℕ
array_json values = codes "[" ++ values_json values ++ codes "]"

-- a member of an object: its name and its value
abbrev pub member : List ℕ → List ℕ → List ℕ
member name value = codes "\"" ++ name ++ codes "\":" ++ value

-- members behind others, and what stands behind them
abbrev pub further_members : List (List ℕ) → List ℕ → List ℕ
further_members [] end = end
further_members (m ∷ ms) end = codes "," ++ (m ++ further_members ms end)

-- members with commas between them, and what stands behind them
abbrev pub members_json : List (List ℕ) → List ℕ → List ℕ
members_json [] end = end
members_json (m ∷ ms) end = m ++ further_members ms end

-- an object of these members
abbrev pub object_json : List (List ℕ) → List ℕ
object_json members = codes "{" ++ members_json members (codes "}")

-- a name, none of whose characters stands otherwise in a text, as one
abbrev pub name_json : List ℕ → List ℕ
name_json name = codes "\"" ++ name ++ codes "\""
