-- Ranks of the rows of a search that no edge raises, and a process for each rank that could always go
-- on there and never does.
use Rattle.std.specs.Prelude.{ℕ, ◌≡◌, ◌<◌, List, Option, Some, All, length}
use Rattle.lab_sched.specs.Worlds.{WorldState, step_effect_in}
use Rattle.lab_worlds.specs.Unwaiting.{GoesOn}
use Rattle.lab_states.specs.Falling.{rank_of, starved_of, IsFalling}
use Rattle.lab_search.specs.declared.store.Store.{Store}
use Rattle.lab_search.specs.Stored.{IsAt}

-- the process of the rank of row number i, if it has one, goes on from the world of the row
abbrev pub IsKept : Store → List ℕ → List (Option ℕ) → ℕ → Type 0
IsKept t ranks starved_processes i = (p : ℕ) → starved_of starved_processes (rank_of ranks i) ≡ Some p
    → (w : WorldState) → IsAt t i w → GoesOn (step_effect_in w p)

-- each edge is such a one, and each row
pub record AreRanked (t : Store) (ranks : List ℕ) (starved_processes : List (Option ℕ)) : Type 0 where
  pub falls : All (IsFalling ranks starved_processes) t.edges
  pub kept : (i : ℕ) → i < length t.rows → IsKept t ranks starved_processes i

-- the rows have such ranks
abbrev pub HaveRanks : Store → Type 0
HaveRanks t = (ranks : List ℕ) × (starved_processes : List (Option ℕ)) × AreRanked t ranks starved_processes
