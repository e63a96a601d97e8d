use Rattle.std.proofs.Common.{◌≡◌, ◌++◌, flat_map, map, take}
use Rattle.std.specs.List.{enumerate_from}
use Rattle.lab_questions.proofs.BasisLemmas.{typed_by}
use Rattle.lab_questions.proofs.bases.push_typed.Given as goal

-- what the parts so far rest on is added
abbrev pub invariant-loop-number : goal.invariant-loop-number
invariant-loop-number l =
    l.bases.items ≡ l.initial.bases.items ++ flat_map (typed_by (map (λ piece. map (λ word. word.now) piece.now) l.pieces)) (take l.number (enumerate_from 0 l.parts))
