-- Numbers of rows that rise along each edge, as a search finds them.
use Rattle.std.specs.Prelude.{ℕ, ◌<◌}
use Rattle.lab_states.specs.declared.edges.Edge.{Edge}

-- the edge leads from a row to one after it, of so many
pub record IsOnward (count : ℕ) (e : Edge) : Type 0 where
  pub less : e.from < e.to
  pub within : e.to < count
