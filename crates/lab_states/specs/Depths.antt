-- How many calls lead to rows.
use Rattle.std.specs.Prelude.{ℕ, ◌≡◌, ◌≤◌, ◌+◌, List, All, slice_get, unwrap_or}
use Rattle.lab_states.specs.declared.edges.Edge.{Edge}

-- the depth of a row, and 0 where there is none
abbrev pub depth_of : List ℕ → ℕ → ℕ
depth_of depths i = unwrap_or (slice_get depths i) 0

-- the edge leads to a row that is at most one deeper
abbrev pub IsNear : List ℕ → Edge → Type 0
IsNear depths e = depth_of depths e.to ≤ depth_of depths e.from + 1

-- the first row has depth 0, and each edge leads to one that is at most one deeper
pub record AreDepths (depths : List ℕ) (edges : List Edge) : Type 0 where
  pub first : depth_of depths 0 ≡ 0
  pub near : All (IsNear depths) edges
