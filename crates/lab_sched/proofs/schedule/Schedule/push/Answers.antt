use Rattle.std.proofs.Common.{rules}
use Rattle.lab_sched.proofs.ScheduleJoins.{schedule-push, total-push, steps-push}
use Rattle.lab_sched.proofs.schedule.Schedule.push.Goals as goal

pub invariant_of-self-2 : goal.invariant_of-self-2
invariant_of-self-2 c = search (rules, schedule-push, total-push)

pub returns-clause-steps : goal.returns-clause-steps
returns-clause-steps c = search (rules, steps-push)

pub returns-clause-total : goal.returns-clause-total
returns-clause-total c = search (rules, total-push)
