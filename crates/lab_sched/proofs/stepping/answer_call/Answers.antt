use Rattle.std.proofs.Common.{rules}
use Rattle.lab_sched.proofs.LocalSteps.{asked_room, running_told}
use Rattle.lab_sched.proofs.stepping.answer_call.Goals as goal

pub give_reply-requires-clause-room : goal.give_reply-requires-clause-room
give_reply-requires-clause-room c = search (rules, asked_room)

pub returns-clause-told : goal.returns-clause-told
returns-clause-told c = running_told c.args.process.now c.in-Running.running c.args.reply.now c.give_reply.new.running.process c.in-Running.is c.requires.reply c.give_reply.ensures.replied
