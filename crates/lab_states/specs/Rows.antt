-- Worlds as rows of numbers.
use Rattle.std.specs.Prelude.{ℕ, zero, suc, List, [], ◌∷◌, take, drop}

-- the places of the kernel of a world, and of the states of its processes
pub record Row : Type 0 where
  pub kernel : ℕ
  pub states : List ℕ

-- a row by its numbers, of which that of the kernel is the first
abbrev pub row_of : List ℕ → Row
row_of [] = record { kernel = 0; states = [] }
row_of (n ∷ ns) = record { kernel = n; states = ns }

-- so many rows of one width, one behind the other
abbrev pub rows_of : ℕ → ℕ → List ℕ → List Row
rows_of width zero ns = []
rows_of width (suc n) ns = row_of (take width ns) ∷ rows_of width n (drop width ns)
