use Rattle.std.proofs.Common.{◌≡◌, map, take}
use Rattle.lab_questions.specs.CallWords.{name_words}
use Rattle.lab_questions.proofs.calling.names_in.Given as goal

-- the names so far are the pieces so far
abbrev pub invariant-loop-piece : goal.invariant-loop-piece
invariant-loop-piece l = take l.piece-index (map (λ piece. map (λ word. word.now) piece.now) l.piece-items) ≡ map name_words l.names.items
