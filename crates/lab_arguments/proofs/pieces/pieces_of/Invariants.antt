use Rattle.std.proofs.Common.{◌≡◌, ◌++◌, length, map}
use denote.Text.{Utf8}
use denote.Shadow.{shadow}
use Rattle.lab_arguments.specs.Pieces.{cut_pieces}
use Rattle.lab_arguments.proofs.pieces.pieces_of.Given as goal

-- the pieces so far are found, and those of the rest are left
abbrev pub invariant-loop-piece : goal.invariant-loop-piece
invariant-loop-piece l = shadow (Utf8 l.rest) × (map (λ p. p.now) l.found.items ++ cut_pieces l.rest ≡ cut_pieces l.value)

abbrev pub decreases-loop-piece : goal.decreases-loop-piece
decreases-loop-piece l = length l.rest
