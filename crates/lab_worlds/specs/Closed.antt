-- Sets of worlds that hold whatever can happen from a start, and the ends that they hold.
use Rattle.std.specs.Prelude.{ℕ, ◌≡◌, List, Some, Contains, slice_get}
use Rattle.ipc_kernel.specs.Alike.{IsConsistent}
use Rattle.lab_sched.specs.Worlds.{Process, WorldState, step_effect_in, step, run}
use Rattle.lab_sched.specs.Finished.{IsAtRest}
use Rattle.lab_worlds.specs.Calls.{AreAlike, IsAdvance}
use Rattle.lab_worlds.specs.Unwaiting.{GoesOn, NoneGoesOn, unwaiting, AskAgain}

-- a world of the set is the world after all local steps of its processes, over a kernel that is
-- alike
abbrev pub HasAdvance : (WorldState → Type 0) → WorldState → Type 0
HasAdvance V w = (v : WorldState) × V v × IsAdvance w v

-- the set has the advance of the start, in which no process has begun to wait, and that of each
-- step by which a process goes on from one of its worlds
pub record IsClosed (start : WorldState) (V : WorldState → Type 0) : Type 0 where
  pub begins : HasAdvance V (unwaiting start)
  pub goes_on : (v : WorldState) (p : ℕ) → V v → GoesOn (step_effect_in v p) → HasAdvance V (step v p)

-- each process has ended, or waits and must still wait
abbrev pub AreAtRest : WorldState → Type 0
AreAtRest w = (p : ℕ) (s : Process) → slice_get w.processes p ≡ Some s → IsAtRest w.kernel p s

-- worlds at rest that are alike but for who waits are alike
abbrev pub RestsAlike : Type 0
RestsAlike = (w v : WorldState) → AskAgain w → AskAgain v → AreAtRest w → AreAtRest v
    → AreAlike (unwaiting w) (unwaiting v) → AreAlike w v

-- a closed list of worlds holds every end, but for who waits: whatever steps are taken from the
-- start, effective or not, if the world after them is at rest, the list has one from which no
-- process goes on, and which that world is alike, with each process that waits before its call
abbrev pub HoldsEveryEnd : Type 0
HoldsEveryEnd = (start : WorldState) (vs : List WorldState) → IsConsistent start.kernel
    → AskAgain start → IsClosed start (Contains vs) → (ps : List ℕ) → AreAtRest (run start ps)
    → (v : WorldState) × Contains vs v × NoneGoesOn v × AreAlike (unwaiting (run start ps)) v
