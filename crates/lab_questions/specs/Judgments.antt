-- Whether ends are as they are required to be.
use Rattle.std.specs.Prelude.{ℕ, true, false, ◌≡◌, List, Some, All, IfSome, take, slice_get}
use Rattle.lab_sched.specs.Verdicts.{AreStuck}
use Rattle.lab_sched.specs.Worlds.{WorldState}
use Rattle.lab_worlds.specs.declared.ends.End.{End}
use Rattle.lab_questions.specs.declared.asked.Waiter.{Waiter}
use Rattle.lab_questions.specs.declared.asked.Word.{Word}
use Rattle.lab_questions.specs.declared.asked.Word.TheVariants.{Ended, Stuck, Halted, Empty, Same, Output}
use Rattle.lab_questions.specs.Outputs.{HasWritten}
use Rattle.lab_questions.specs.Requirements.{HaveSettled, AreEmptied, outputs}

-- a world at rest is as the word requires; beside the world of another end for what those have written
abbrev pub Meets : Word → List Waiter → WorldState → WorldState → Type 0
Meets Ended waiters other w = HaveSettled false waiters w
Meets Stuck waiters other w = AreStuck w
Meets Halted waiters other w = HaveSettled true waiters w
Meets Empty waiters other w = AreEmptied w
Meets Same waiters other w = outputs w ≡ outputs other
Meets (Output need) waiters other w = HasWritten need w

-- an end is as the word requires, beside the first of the ends
abbrev pub IsMet : Word → List Waiter → List End → End → Type 0
IsMet word waiters ends e = IfSome (slice_get ends 0) (λ first. Meets word waiters first.world e.world)

-- end number i, counted from 0, is the first that isn't as the word requires
pub record IsFault (word : Word) (waiters : List Waiter) (ends : List End) (i : ℕ) : Type 0 where
  pub end : End
  pub there : slice_get ends i ≡ Some end
  pub unmet : IsMet word waiters ends end → ⊥
  pub first : All (IsMet word waiters ends) (take i ends)
