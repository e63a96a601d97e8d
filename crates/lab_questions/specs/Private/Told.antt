-- What is told of the first of some ends.
use Rattle.std.specs.Prelude.{ℕ, ◌≡◌, List, [], ◌∷◌, ◌++◌, length, map, string_bytes}
use Rattle.lab_worlds.specs.declared.ends.End.{End}
use Rattle.lab_questions.specs.declared.asked.Show.{Show}
use Rattle.lab_questions.specs.declared.texts.Told.{Told}
use Rattle.lab_questions.specs.EndTexts.{text_of, told_ends, ends_text, AreTold}

-- the lines, the texts and the numbers of those ends that are told
pub record IsTold (show : Show) (t : Told) (ends : List End) : Type 0 where
  pub text : string_bytes t.text ≡ ends_text show 1 (told_ends show ends)
  pub texts : map string_bytes t.texts.items ≡ map (text_of show) (told_ends show ends)
  pub numbers : AreTold show ends t.numbers.items

-- one end more is told
abbrev pub TellsNext : Show → ℕ → Told → Told → End → Type 0
TellsNext show i t u e = (ends : List End) → length ends ≡ i → IsTold show t ends → IsTold show u (ends ++ e ∷ [])
