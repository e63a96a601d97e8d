use Rattle.std.proofs.Common.{rules}
use Rattle.std.proofs.lemmas.Result.{err_from_is_err_and}
use Rattle.lab_sched.proofs.ScheduleSteps.{reading-fails, reading-ok}
use Rattle.lab_sched.proofs.schedule.schedule_of_words.Goals as goal

pub returns-in_err-blocks : goal.returns-in_err-blocks
returns-in_err-blocks c = search (rules, reading-fails, err_from_is_err_and)

pub returns : goal.returns
returns c = search (rules, reading-ok)
