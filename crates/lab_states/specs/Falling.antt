-- Ranks of rows that no edge raises.
use Rattle.std.specs.Prelude.{ℕ, ◌≡◌, ◌<◌, ◌⊎◌, List, Option, Some, None, slice_get, unwrap_or}
use Rattle.lab_states.specs.declared.edges.Edge.{Edge}

-- the rank of a row, and 0 where there is none
abbrev pub rank_of : List ℕ → ℕ → ℕ
rank_of ranks i = unwrap_or (slice_get ranks i) 0

-- the process of a rank, if it has one
abbrev pub starved_of : List (Option ℕ) → ℕ → Option ℕ
starved_of starved_processes k = unwrap_or (slice_get starved_processes k) None

-- the edge leads to a lesser rank, or from a rank that has a process to the same by a step of another
pub record IsFalling (ranks : List ℕ) (starved_processes : List (Option ℕ)) (e : Edge) : Type 0 where
  pub falls : (rank_of ranks e.to < rank_of ranks e.from)
      ⊎ ((rank_of ranks e.to ≡ rank_of ranks e.from)
      × (p : ℕ) × (starved_of starved_processes (rank_of ranks e.from) ≡ Some p) × (e.pid ≡ p → ⊥))
