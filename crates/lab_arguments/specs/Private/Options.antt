-- What the words of an option say.
use Rattle.std.specs.Prelude.{◌≡◌, ℕ, ◌<◌, ◌^◌, List, [], Option, Some, None, unwrap_or}
use Rattle.std.specs.Option.{option_map}
use Rattle.clap.specs.Words.{matched_of, one_text, raw_values}
use Rattle.clap.specs.declared.parser.matches.Found.{Found}
use Rattle.std.specs.Borrow.{Bor}
use Rattle.std.specs.Str.Parse.{IsNumeral, digits_value, without_leading_plus}

-- a text is this number in decimal digits, which has at most 32 bits
abbrev pub IsNumber : List ℕ → ℕ → Type 0
IsNumber text n =
    IsNumeral 10 (without_leading_plus text) × (digits_value 10 (without_leading_plus text) ≡ n) × (n < 2 ^ 32)

-- this is so of the number that the words give to an option of this name, where they give one
abbrev pub ForNumber : Found → List ℕ → (ℕ → Type 0) → Type 0
ForNumber found name P = (text : List ℕ) (n : ℕ) → one_text found name ≡ Some text → IsNumber text n → P n

-- this is the number that the words give to an option of this name, or none where they give none
abbrev pub IsNumberOf : Found → List ℕ → Option ℕ → Type 0
IsNumberOf found name given = (one_text found name ≡ None → given ≡ None) × ForNumber found name (λ n. given ≡ Some n)

-- this is the number that they give, or the usual one where they give none
abbrev pub IsNumberOr : Found → List ℕ → ℕ → ℕ → Type 0
IsNumberOr found name usual given = (one_text found name ≡ None → given ≡ usual) × ForNumber found name (λ n. given ≡ n)

-- the values of an option of this name, in their order
abbrev pub values_in : Found → List ℕ → List (List ℕ)
values_in found name = unwrap_or (option_map raw_values (matched_of found name)) []

-- the most worlds to visit, or those of a walk if so many are taken, where no number is given
abbrev pub usual_worlds : Option ℕ → ℕ
usual_worlds None = 10000000
usual_worlds (Some count) = 10000

-- of how many processes standard input can be the console input, which holds that, or else nothing of its own
abbrev pub most_inputs : Option (Bor (List ℕ)) → ℕ
most_inputs None = 1
most_inputs (Some held) = 0
