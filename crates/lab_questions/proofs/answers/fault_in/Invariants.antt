use Rattle.std.proofs.Common.{All, take}
use Rattle.lab_questions.specs.Judgments.{IsMet}
use Rattle.lab_questions.proofs.answers.fault_in.Given as goal

-- the ends so far are as the word requires
abbrev pub invariant-loop-number : goal.invariant-loop-number
invariant-loop-number l = All (IsMet l.word l.waiters l.ends) (take l.number l.ends)
