use Rattle.std.proofs.Common.{rules}
use Rattle.lab_sched.proofs.LocalSteps.{local_one}
use Rattle.lab_sched.proofs.stepping.take_step.Goals as goal

pub returns-then-taken-eq1-clause-ok : goal.returns-then-taken-eq1-clause-ok
returns-then-taken-eq1-clause-ok c = search (rules, local_one)
