-- Pairs of a row and a state that ways reach, as marks that are checked.
use Rattle.std.specs.Prelude.{ℕ, ◌≡◌, ◌≤◌, ◌<◌, ◌+◌, ◌*◌, ◌⊎◌, Some, IsTrue, slice_get, unwrap_or}
use Rattle.lab_sched.specs.Worlds.{WorldState}
use Rattle.lab_sched.specs.Schedules.{steps_of}
use Rattle.lab_worlds.specs.Unwaiting.{NoneGoesOn}
use Rattle.lab_worlds.specs.Walked.{IsWalk}
use Rattle.lab_states.specs.declared.edges.Edge.{Edge}
use Rattle.lab_search.specs.declared.store.Store.{Store}
use Rattle.lab_search.specs.Stored.{IsAt}
use Rattle.lab_ways.specs.declared.wanted.Wanted.{Wanted}
use Rattle.lab_ways.specs.declared.marking.Marks.{Marks}
use Rattle.lab_ways.specs.declared.walking.WatchedWalk.{WatchedWalk}
use Rattle.lab_ways.specs.Wanted.{next_in, is_allowed, is_accepted}
use Rattle.lab_ways.specs.Ways.{state_after, BreaksAtLast, RestsUnaccepted}

-- row number i is marked with state s
abbrev pub IsMarked : Marks → ℕ → ℕ → Type 0
IsMarked m i s = 1 ≤ unwrap_or (slice_get m.marks.items (i * m.states + s)) 0

-- an edge leads from its row, if that is marked with s, to one that is marked with the state after its step
abbrev pub KeepsMark : Wanted → Store → Marks → Edge → ℕ → Type 0
KeepsMark x t m e s =
    IsMarked m e.from s → (w : WorldState) → IsAt t e.from w
    → (next_in x s w e.pid < m.states) × IsMarked m e.to (next_in x s w e.pid)

-- the same with each state
abbrev pub KeepsMarks : Wanted → Store → Marks → Edge → Type 0
KeepsMarks x t m e = (s : ℕ) → s < m.states → KeepsMark x t m e s

-- the same of the edge with a number
abbrev pub KeepsMarksAt : Wanted → Store → Marks → ℕ → Type 0
KeepsMarksAt x t m k = (e : Edge) → slice_get t.edges k ≡ Some e → KeepsMarks x t m e

-- if row number i is marked with s, that is allowed, and accepted where no process goes on
abbrev pub IsRight : Wanted → Store → Marks → ℕ → ℕ → Type 0
IsRight x t m i s =
    IsMarked m i s → (w : WorldState) → IsAt t i w
    → IsTrue (is_allowed x.pattern s) × (NoneGoesOn w → IsTrue (is_accepted x.pattern s))

-- the same with each state
abbrev pub AreRightAt : Wanted → Store → Marks → ℕ → Type 0
AreRightAt x t m i = (s : ℕ) → s < m.states → IsRight x t m i s

-- the first row is marked with the first state, edges lead from marked pairs to marked ones, and all of these are right
pub record AreShown (x : Wanted) (t : Store) (m : Marks) : Type 0 where
  pub some : 0 < m.states
  pub first : IsMarked m 0 0
  pub edges : (k : ℕ) → KeepsMarksAt x t m k
  pub rows : (i : ℕ) → AreRightAt x t m i

-- a walk from the start, and the state after its steps
pub record IsWatched (x : Wanted) (start : WorldState) (w : WatchedWalk) : Type 0 where
  pub walk : IsWalk start w.walk
  pub state : state_after x start (steps_of w.walk.schedule) ≡ w.state

-- the second is such a one where the first is
abbrev pub KeepsWatched : Wanted → WatchedWalk → WatchedWalk → Type 0
KeepsWatched x w v = (start : WorldState) → IsWatched x start w → IsWatched x start v

-- its steps lead to an end at which what is asked isn't so
abbrev pub EndsAgainst : Wanted → WorldState → WatchedWalk → Type 0
EndsAgainst x start w = BreaksAtLast x start (steps_of w.walk.schedule) ⊎ RestsUnaccepted x start (steps_of w.walk.schedule)

-- the second is such a one, and ends so, where the first is
abbrev pub ComesToEnd : Wanted → WatchedWalk → WatchedWalk → Type 0
ComesToEnd x w v = (start : WorldState) → IsWatched x start w → IsWatched x start v × EndsAgainst x start v
