-- Why not all is shown to be as it has to be.
use Rattle.std.specs.Prelude.{ℕ, ◌≡◌, ◌&&◌, ◌||◌, ◌==◌, Bool, true, false, not, is_some, cond, Option, Some, None, List, [], ◌∷◌, All, IsTrue, length, position}
use Rattle.std.specs.List.{list_all, list_any}
use Rattle.lab_worlds.specs.declared.exploration.Exploration.{Exploration}
use Rattle.lab_questions.specs.declared.answers.Answer.{Answer}
use Rattle.lab_questions.specs.declared.answers.Found.TheVariants.{Holds}
use Rattle.lab_questions.specs.declared.bases.Basis.{Basis}
use Rattle.lab_questions.specs.declared.failure.Failure.{Failure}
use Rattle.lab_questions.specs.declared.failure.Failure.TheVariants.{Unmet, Endless, Empty, Incomplete}
use Rattle.lab_questions.specs.Answered.{fails, is_known}
use Rattle.lab_questions.specs.Asked.{asks_rest, is_of_calls}

-- the number of the first answer, from 0, that its question isn't so; of those of calls too, or of no such
abbrev pub first_failing : Bool → List Answer → Option ℕ
first_failing calls answers = position (λ a. fails a.found && (calls || not (is_of_calls a.question))) answers

-- this question, or else the other failure
abbrev pub or_else : Option ℕ → Option Failure → Option Failure
or_else None failure = failure
or_else (Some k) failure = Some (Unmet k)

-- some conditions ask nothing, or else the other failure
abbrev pub empty_or_else : List Basis → Option Failure → Option Failure
empty_or_else [] failure = failure
empty_or_else (b ∷ bases) failure = Some Empty

-- what isn't so of ends, worlds and steps; else a round, if a word asks that each run comes to rest; else a way; else that conditions
-- ask nothing, by what they rest on; else what isn't known
abbrev pub failure_of : Exploration → List Answer → List Basis → Option Failure
failure_of e answers empty =
    or_else (first_failing false answers)
    (cond (is_some e.lasso && list_any (λ a. asks_rest a.question) answers) (Some Endless)
    (or_else (first_failing true answers)
    (empty_or_else empty
    (cond (e.complete && list_all (λ a. is_known a.found) answers) None (Some Incomplete)))))

-- all is so, each run comes to rest if a word asks that, each condition asks something, and everything was visited
pub record Passes (e : Exploration) (answers : List Answer) (empty : List Basis) : Type 0 where
  pub holds : All (λ a. a.found ≡ Holds) answers
  pub rests : IsTrue (list_any (λ a. asks_rest a.question) answers) → e.lasso ≡ None
  pub asks : empty ≡ []
  pub complete : IsTrue e.complete

-- something has to be so
abbrev pub judges : List Answer → Bool
judges answers = not (length answers == 0)
