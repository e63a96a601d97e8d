-- Walks from a start, and how many processes wait in a world.
use Rattle.std.specs.Prelude.{ℕ, ◌≡◌, count_by, length}
use Rattle.lab_sched.specs.Worlds.{WorldState, run, entries}
use Rattle.lab_sched.specs.Verdicts.{is_waiting}
use Rattle.lab_sched.specs.Execution.{AreEffective}
use Rattle.lab_sched.specs.Schedules.{steps_of}
use Rattle.lab_worlds.specs.declared.walking.Walk.{Walk}

-- how many processes wait
abbrev pub waiting : WorldState → ℕ
waiting w = count_by is_waiting w.processes

-- effective steps lead from the start to the world, and so many of them are calls
pub record IsWalk (start : WorldState) (w : Walk) : Type 0 where
  pub effective : AreEffective start (steps_of w.schedule)
  pub leads : run start (steps_of w.schedule) ≡ w.world
  pub calls : length (entries start (steps_of w.schedule)) ≡ w.calls

-- the second walk begins where the first does
abbrev pub KeepsStart : Walk → Walk → Type 0
KeepsStart w v = (start : WorldState) → IsWalk start w → IsWalk start v
