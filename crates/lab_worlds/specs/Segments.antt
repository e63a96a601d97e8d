-- Walks along which it is written down which processes are served.
use Rattle.std.specs.Prelude.{ℕ, ◌≡◌, true, Some, length, slice_get}
use Rattle.lab_sched.specs.Worlds.{WorldState}
use Rattle.lab_sched.specs.Schedules.{steps_of}
use Rattle.lab_worlds.specs.declared.closed_walks.FairSegment.{FairSegment}
use Rattle.lab_worlds.specs.Walked.{IsWalk}
use Rattle.lab_worlds.specs.Fairness.{IsFairTo}

-- a walk from the start that treats fairly each process of which that is written down
pub record IsSegmentSoFar (start : WorldState) (p : FairSegment) : Type 0 where
  pub walk : IsWalk start p.walk
  pub count : length p.fair_to.items ≡ length start.processes
  pub fair_to : (q : ℕ) → slice_get p.fair_to.items q ≡ Some true → IsFairTo start (steps_of p.walk.schedule) q

-- the second begins where the first does
abbrev pub KeepsSegment : FairSegment → FairSegment → Type 0
KeepsSegment p q = (start : WorldState) → IsSegmentSoFar start p → IsSegmentSoFar start q
