-- A schedule whose last step is counted anew.
use Rattle.std.specs.Prelude.{ℕ, ◌≡◌, ◌+◌, ◌++◌, List, [], ◌∷◌, replicate}
use Rattle.lab_sched.specs.Schedules.{steps_of, total_of, IsSchedule}
use Rattle.lab_sched.specs.declared.schedule.Block.{Block}

-- a schedule with n steps of the same process in the place of its last one
pub record IsResized (xs ys : List Block) (n : ℕ) : Type 0 where
  pub schedule : IsSchedule ys
  pub total : total_of ys + 1 ≡ total_of xs + n
  pub steps : (ps : List ℕ) (p : ℕ) → steps_of xs ≡ ps ++ p ∷ [] → steps_of ys ≡ ps ++ replicate n p
