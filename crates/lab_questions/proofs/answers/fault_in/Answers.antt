use Rattle.lab_questions.specs.Judgments.{IsMet}
use Rattle.lab_conditions.proofs.ListLemmas.{all_whole}
use Rattle.lab_questions.proofs.answers.fault_in.Goals as goal

pub returns : goal.returns
returns c = record { fault = all_whole (IsMet c.args.word.now c.args.waiters.now c.args.ends.now) c.args.ends.now c.loop-number.number c.loop-number-test.false c.loop-number.invariant }
