use Rattle.std.proofs.Common.{◌≡◌, ◌++◌, flat_map, take, string_bytes}
use Rattle.lab_questions.proofs.left.push_left.Given as goal

-- the lines so far are added
abbrev pub invariant-loop-left : goal.invariant-loop-left
invariant-loop-left l =
    string_bytes l.text ≡ string_bytes l.initial.text ++ flat_map (λ left. string_bytes left.lines) (take l.left-index l.left-items)
