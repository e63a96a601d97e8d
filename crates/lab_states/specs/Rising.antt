-- Numbers of rows that rise along each edge, as a search finds them.
use Rattle.std.specs.Prelude.{ℕ, ◌≡◌, ◌<◌, ◌≤◌, List, Some, All, length, slice_get}
use Rattle.lab_states.specs.declared.edges.Edge.{Edge}

-- the edge leads from a row with a number to one with a greater number, which isn't above the
-- length of the list
pub record IsRising (order : List ℕ) (e : Edge) : Type 0 where
  pub before : ℕ
  pub after : ℕ
  pub from : slice_get order e.from ≡ Some before
  pub to : slice_get order e.to ≡ Some after
  pub less : before < after
  pub within : after ≤ length order

-- each edge does
abbrev pub Rises : List ℕ → List Edge → Type 0
Rises order edges = All (IsRising order) edges

-- the rows have such numbers
abbrev pub AreRising : List Edge → Type 0
AreRising edges = (order : List ℕ) × Rises order edges
