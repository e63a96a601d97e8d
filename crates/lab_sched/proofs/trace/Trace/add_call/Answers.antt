use Rattle.std.proofs.Common.{arith, rules}
use Rattle.lab_sched.proofs.OwnSteps.{leads_told, weight-append}
use Rattle.lab_sched.proofs.trace.Trace.add_call.Goals as goal

pub returns-clause-alone : goal.returns-clause-alone
returns-clause-alone c s x y h t = search (rules, leads_told)

pub returns-clause-steps : goal.returns-clause-steps
returns-clause-steps c = rw (c.push_reserved.ensures.items, weight-append) (omega arith)
