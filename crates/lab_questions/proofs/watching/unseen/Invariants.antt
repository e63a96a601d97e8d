use Rattle.std.proofs.Common.{◌≡◌, take}
use Rattle.lab_questions.specs.Private.Presences.{unseen}
use Rattle.lab_questions.proofs.watching.unseen.Given as goal

-- those without a schedule so far
abbrev pub invariant-loop-number : goal.invariant-loop-number
invariant-loop-number l = l.unseen.items ≡ unseen (take l.number l.bases) (take l.number l.seen)
