use Rattle.std.proofs.Common.{rules}
use Rattle.lab_sched.proofs.ScheduleReadsBack.{shown_back}
use Rattle.lab_sched.proofs.schedule.Schedule.text.Goals as goal

pub returns-clause-reads_back : goal.returns-clause-reads_back
returns-clause-reads_back c = search (rules, shown_back)
