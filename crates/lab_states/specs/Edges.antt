-- Edges as lists of numbers, in the order of the rows that they lead from.
use Rattle.std.specs.Prelude.{ℕ, suc, List, [], ◌∷◌, cond, ltb}
use Rattle.lab_states.specs.declared.edges.Edge.{Edge}

-- the row from which the edge at a place leads, by the places where the edges from rows end: the first
-- row whose edges end behind the place, and where there is none the row after all these
abbrev pub from_of : List ℕ → ℕ → ℕ
from_of [] k = 0
from_of (e ∷ es) k = cond (ltb k e) 0 (suc (from_of es k))

-- edges from a place on, by the rows that they lead to, and their processes
abbrev pub edges_of : List ℕ → ℕ → List ℕ → List ℕ → List Edge
edges_of ends k [] ps = []
edges_of ends k (t ∷ ts) [] = []
edges_of ends k (t ∷ ts) (p ∷ ps) = record { from = from_of ends k; to = t; pid = p } ∷ edges_of ends (suc k) ts ps
