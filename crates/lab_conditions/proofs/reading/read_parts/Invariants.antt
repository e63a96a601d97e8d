use Rattle.std.proofs.Common.{◌≡◌, drop, map}
use Rattle.lab_conditions.specs.Written.{parts_in}
use Rattle.lab_conditions.proofs.PartLemmas.{with_front}
use Rattle.lab_conditions.proofs.reading.read_parts.Given as goal

-- the pieces so far are read, and the others are left
abbrev pub invariant-loop-piece : goal.invariant-loop-piece
invariant-loop-piece l =
    parts_in (map (λ piece. map (λ word. word.now) piece.now) l.pieces)
    ≡ with_front l.parts.items (parts_in (drop l.piece-index (map (λ piece. map (λ word. word.now) piece.now) l.pieces)))
