-- The values of the last members of the answers.
use Rattle.std.specs.Prelude.{ℕ, Bool, true, false, List, [], ◌∷◌, Option, Some, None, codes, map}
use Rattle.lab_worlds.specs.declared.exploration.Lasso.{Lasso}
use Rattle.lab_questions.specs.declared.failure.Failure.{Failure}
use Rattle.lab_questions.specs.declared.failure.Failure.TheVariants.{Incomplete}
use Rattle.lab_questions.specs.declared.bases.Basis.{Basis}
use Rattle.lab_questions.specs.Bases.{basis_text}
use Rattle.lab_questions.specs.Values.{text_json, schedule_json, member, object_json}

-- what conditions rest on and is never there, each as it is told
abbrev pub bases_told : List Basis → List (List ℕ)
bases_told bases = map (λ b. text_json (basis_text b)) bases

-- a lasso
unfoldable pub cycle_json : Lasso → List ℕ
cycle_json r = object_json (member (codes "schedule") (schedule_json r.schedule) ∷ member (codes "round") (schedule_json r.steps) ∷ [])

-- a lasso, or that there is none
abbrev pub lasso_json : Option Lasso → List ℕ
lasso_json None = codes "null"
lasso_json (Some r) = cycle_json r

-- whether all is as it has to be, where something has to be so and that is known
abbrev pub holds_json : Bool → Option Failure → List ℕ
holds_json false failure = codes "null"
holds_json true None = codes "true"
holds_json true (Some Incomplete) = codes "null"
holds_json true (Some failure) = codes "false"
