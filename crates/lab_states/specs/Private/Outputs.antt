-- Outputs that are made of pieces.
use Rattle.std.specs.Prelude.{◌≡◌, ◌≤◌, ℕ, List, [], ◌∷◌, ◌++◌, Some, get_or, slice_get}
use Rattle.lab_states.specs.declared.outputs.Piece.{Piece}

-- outputs, and behind them one more: a piece behind one of them
abbrev pub with_piece : List (List ℕ) → Piece → List (List ℕ)
with_piece os p = os ++ (get_or os p.before [] ++ p.bytes) ∷ []

-- the same for each piece, one after the other
abbrev pub with_pieces : List (List ℕ) → List Piece → List (List ℕ)
with_pieces os [] = os
with_pieces os (p ∷ ps) = with_pieces (with_piece os p) ps

-- the outputs that pieces make, the first of which is empty
unfoldable pub outputs_of : List Piece → List (List ℕ)
outputs_of ps = with_pieces ([] ∷ []) ps

-- each piece stands behind an output before its own
abbrev pub AreChained : List Piece → Type 0
AreChained ps = (k : ℕ) (p : Piece) → slice_get ps k ≡ Some p → p.before ≤ k

-- the same outputs, and perhaps more
abbrev pub Extends : List (List ℕ) → List (List ℕ) → Type 0
Extends os qs = (more : List (List ℕ)) × (qs ≡ os ++ more)

-- the bytes of pieces, the last of which stands first
abbrev pub joined : List Piece → List ℕ
joined [] = []
joined (p ∷ ps) = joined ps ++ p.bytes
