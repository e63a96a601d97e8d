use Rattle.lab_sched.proofs.ScheduleFaults.{gives_read, gives_fault}
use Rattle.lab_sched.proofs.schedule.Schedule.read.Goals as goal

pub returns : goal.returns
returns c =
    let gives = rw c.as_bytes.ensures.value at c.schedule_of.ensures.exact in
    let read = gives_read c.schedule_of.result c.args.text.now gives in
    let fault = gives_fault c.schedule_of.result c.args.text.now gives in
    record { ok = read.0; err = read.1; bad_block = fault.0; too_long = fault.1 }
