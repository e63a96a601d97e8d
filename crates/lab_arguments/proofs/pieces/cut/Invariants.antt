use Rattle.std.proofs.Common.{◌≡◌, take, drop}
use Rattle.lab_arguments.specs.Pieces.{pieces_from, cut_pieces}
use Rattle.lab_arguments.proofs.pieces.cut.Given as goal

-- no comma outside of quotes stands so far
abbrev pub invariant-loop-at : goal.invariant-loop-at
invariant-loop-at l = cut_pieces l.text ≡ pieces_from l.place (take l.at l.text) (drop l.at l.text)
