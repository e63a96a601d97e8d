use Rattle.std.proofs.Common.{sym, ◌∙◌}
use Rattle.lab_sched.proofs.ScheduleJoins.{length-steps}
use Rattle.lab_sched.proofs.schedule.Schedule.total.Goals as goal

pub returns-clause-steps : goal.returns-clause-steps
returns-clause-steps c = rw (← c.self.view_is) (c.self.invariant.1 ∙ sym (length-steps c.self.inside.blocks.items))
