use Rattle.lab_questions.specs.Private.Lefts.{AreLeft}
use Rattle.lab_questions.proofs.left.lefts_of.Given as goal

-- the places so far in which messages are left
abbrev pub invariant-loop-place : goal.invariant-loop-place
invariant-loop-place l = AreLeft l.kernel l.place l.lefts.items
