use Rattle.std.proofs.Common.{rules}
use Rattle.lab_sched.proofs.OwnSteps.{ran_local}
use Rattle.lab_sched.proofs.stepping.local_steps.Goals as goal

pub returns-in-Running-clause-local : goal.returns-in-Running-clause-local
returns-in-Running-clause-local c = search (rules, ran_local)
