use Rattle.std.proofs.Common.{rules}
use Rattle.lab_sched.proofs.ScheduleSteps.{too_long-more, too_long-here, too_long-end, joined-none, joined-more, schedule-long, schedule-ok}
use Rattle.lab_sched.proofs.schedule.schedule_of_blocks.Goals as goal

pub loop-i-init : goal.loop-i-init
loop-i-init c = search (rules, joined-none)

pub returns-then-block-total : goal.returns-then-block-total
returns-then-block-total c = search (rules, schedule-long, too_long-here)

pub loop-i-preserved : goal.loop-i-preserved
loop-i-preserved c = search (rules, joined-more, too_long-more)

pub returns : goal.returns
returns c = search (rules, schedule-ok, too_long-end, c.loop-i.schedule, c.loop-i.i, c.loop-i.invariant.rest, c.loop-i-test.false, c.loop-i.invariant.made)
