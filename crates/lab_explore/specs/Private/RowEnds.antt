-- Ends of the worlds that a search keeps.
use Rattle.std.specs.Prelude.{ℕ, ◌≡◌, ◌≤◌, ◌+◌, List, Some, slice_get}
use Rattle.lab_sched.specs.Worlds.{WorldState}
use Rattle.lab_worlds.specs.declared.ends.End.{End}
use Rattle.lab_worlds.specs.Calls.{AreAlike}
use Rattle.lab_worlds.specs.Unwaiting.{unwaiting, NoneGoesOn}
use Rattle.lab_worlds.specs.Walked.{waiting}
use Rattle.lab_states.specs.Depths.{depth_of, AreDepths}
use Rattle.lab_search.specs.declared.store.Store.{Store}
use Rattle.lab_search.specs.Stored.{IsAt}

-- one of the ends is in a world that is alike this one, with each process that waits before its call,
-- after at most d calls and one for each process that waits
abbrev pub HasUnwaitingEnd : List End → WorldState → ℕ → Type 0
HasUnwaitingEnd ends w d =
    (i : ℕ) × (e : End) × (slice_get ends i ≡ Some e) × AreAlike w (unwaiting e.world)
    × (e.calls ≤ d + waiting e.world)

-- one of the ends is such a one for the world of row number i, if no process goes on from there
abbrev pub HasRowEnd : Store → List End → ℕ → ℕ → Type 0
HasRowEnd t ends i d = (w : WorldState) → IsAt t i w → NoneGoesOn w → HasUnwaitingEnd ends w d

-- the same of each row, by its depth
pub record HaveRowEnds (t : Store) (ends : List End) : Type 0 where
  pub depths : List ℕ
  pub are : AreDepths depths t.edges
  pub each : (i : ℕ) → HasRowEnd t ends i (depth_of depths i)
