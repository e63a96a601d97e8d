-- Edges as lists of numbers, in the order of the rows that they lead from.
use Rattle.std.specs.Prelude.{ℕ, ◌≡◌, ◌≤◌, ◌<◌, List, [], ◌∷◌, length, slice_get, Some}

-- numbers none of which is less than one before it, from one number up to another
abbrev pub AreBetween : ℕ → List ℕ → ℕ → Type 0
AreBetween low [] high = low ≤ high
AreBetween low (n ∷ ns) high = (low ≤ n) × AreBetween n ns high

-- the edges from each row before one end at a place or before it
abbrev pub ArePast : List ℕ → ℕ → ℕ → Type 0
ArePast ends row at = (i e : ℕ) → i < row → slice_get ends i ≡ Some e → e ≤ at

-- each edge has a process, and the edges from rows end in their order
pub record AreParts (ends tos pids : List ℕ) : Type 0 where
  pub count : length pids ≡ length tos
  pub ordered : AreBetween 0 ends (length tos)
