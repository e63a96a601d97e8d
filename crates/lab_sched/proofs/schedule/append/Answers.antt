use Rattle.std.proofs.Common.{rules}
use Rattle.lab_sched.proofs.ScheduleJoins.{joined-set, joined-apart_push, joined-first, same_read}
use Rattle.lab_sched.proofs.schedule.append.Goals as goal
use Rattle.lab_sched.proofs.schedule.append.Goals.{else-len-gt0-via-then-len-gt0+else-index-block, else-len-gt0-via-else-len-gt0}

pub returns-then-index-block-clause-ok : goal.returns-then-index-block-clause-ok
returns-then-index-block-clause-ok c = search (rules, same_read, joined-set)

pub returns-in_ok-push-clause-ok : goal.returns-in_ok-push-clause-ok
returns-in_ok-push-clause-ok c = search (rules, else-len-gt0-via-then-len-gt0+else-index-block, joined-apart_push, else-len-gt0-via-else-len-gt0, joined-first)
