use Rattle.std.proofs.Common.{arith, rules}
use Rattle.lab_sched.proofs.ScheduleJoins.{resized_none, resized_some}
use Rattle.lab_sched.proofs.schedule.resize_last.Goals as goal

pub returns-then-count-gt0 : goal.returns-then-count-gt0
returns-then-count-gt0 c = search (rules, resized_some)

pub returns-else-count-gt0 : goal.returns-else-count-gt0
returns-else-count-gt0 c = record { resized = rw c.in-Some.ensures.items (resized_none _ _ _ (rw c.in-Some.ensures.items at c.requires.schedule) (omega (arith, c.if-count-gt0.false))) }
