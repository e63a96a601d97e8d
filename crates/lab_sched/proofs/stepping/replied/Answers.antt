use Rattle.std.proofs.Common.{rules}
use Rattle.lab_sched.proofs.LocalSteps.{asked_room, reply_told}
use Rattle.lab_sched.proofs.stepping.replied.Goals as goal

pub give_reply-requires-clause-room : goal.give_reply-requires-clause-room
give_reply-requires-clause-room c = search (rules, asked_room)

pub returns-clause-told : goal.returns-clause-told
returns-clause-told c = search (rules, reply_told)
