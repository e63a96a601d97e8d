-- Runs that never end: lassos, by which steps lead from a world to one alike, and what shows that
-- there is none.
use Rattle.std.specs.Prelude.{ℕ, ◌≤◌, ◌++◌, List, length, replicate}
use Rattle.std.specs.List.{concat}
use Rattle.lab_sched.specs.Worlds.{WorldState, run}
use Rattle.lab_sched.specs.Execution.{AreEffective}
use Rattle.lab_sched.specs.Schedules.{steps_of}
use Rattle.lab_worlds.specs.declared.exploration.Lasso.{Lasso}
use Rattle.lab_worlds.specs.Calls.{AreAlike}

-- effective steps lead from the start to a world, and others, at least one, from that world to one
-- alike
pub record IsLasso (start : WorldState) (r : Lasso) : Type 0 where
  pub effective : AreEffective start (steps_of r.schedule)
  pub some : 1 ≤ length (steps_of r.steps)
  pub goes_on : AreEffective (run start (steps_of r.schedule)) (steps_of r.steps)
  pub returns : AreAlike (run start (steps_of r.schedule))
      (run (run start (steps_of r.schedule)) (steps_of r.steps))

-- behind the schedule's steps, those of the lasso are effective as often as one likes
abbrev pub CanBeRepeated : WorldState → Lasso → Type 0
CanBeRepeated start r =
    (n : ℕ) → AreEffective start (steps_of r.schedule ++ concat (replicate n (steps_of r.steps)))

-- there are lists of effective steps as long as one likes
abbrev pub AreEndless : WorldState → Type 0
AreEndless start = (n : ℕ) → (ps : List ℕ) × AreEffective start ps × (n ≤ length ps)

-- no list of effective steps has more than some number of them
abbrev pub AreBounded : WorldState → Type 0
AreBounded start = (n : ℕ) × ((ps : List ℕ) → AreEffective start ps → length ps ≤ n)
