use Rattle.std.proofs.Common.{take}
use Rattle.lab_questions.specs.Private.Told.{IsTold}
use Rattle.lab_questions.proofs.texts.told_of.Given as goal

-- the ends so far are told
abbrev pub invariant-loop-at : goal.invariant-loop-at
invariant-loop-at l = IsTold l.show l.told (take l.at l.ends)
