use Rattle.std.proofs.Common.{◌∙◌, ap, rules}
use Rattle.ipc_kernel.specs.declared.call.Answer.TheVariants.{Done}
use Rattle.lab_sched.proofs.LocalSteps.{came, asked_room, tried_reply, tried_wait}
use Rattle.lab_sched.proofs.stepping.step_trap.Goals as goal

pub give_word-requires : goal.give_word-requires
give_word-requires c =
    let asked = rw c.in-Kernel.is at c.in_ok-call-in-Running.ensures.asked in
    record { trap = (c.args.vector, rw asked.1 (rw c.in-Running.is at c.requires.stands)) }

pub returns-in-Ok-Done-Plain : goal.returns-in-Ok-Done-Plain
returns-in-Ok-Done-Plain c =
    let asked = rw c.in-Kernel.is at c.in_ok-call-in-Running.ensures.asked in
    let is = c.in-Ok-Done-Plain.field-0-is ∙ ap Done c.in-Ok-Done-Plain.field-0-0-is in
    record { steps = came (rw c.in-Running.is (tried_reply c.args.kernel.now c.call.new.self c.args.pid asked (rw is at c.in-Ok-Done-Plain.ensures.answered) c.give_word.ensures.replied)) tt c.call.ensures.count }

pub give_reply-requires : goal.give_reply-requires
give_reply-requires c = search (rules, asked_room)

pub returns-in-Ok-Done : goal.returns-in-Ok-Done
returns-in-Ok-Done c =
    let asked = rw c.in-Kernel.is at c.in_ok-call-in-Running.ensures.asked in
    record { steps = came (rw c.in-Running.is (tried_reply c.args.kernel.now c.call.new.self c.args.pid asked (rw c.in-Ok-Done.field-0-is at c.in-Ok-Done.ensures.answered) c.give_reply.ensures.replied)) tt c.call.ensures.count }

pub returns-in-Ok-Wait : goal.returns-in-Ok-Wait
returns-in-Ok-Wait c =
    let asked = rw c.in-Kernel.is at c.in_ok-call-in-Running.ensures.asked in
    record { steps = came (rw (c.in-Running.is, c.begin_wait.ensures.waits, asked.1) (tried_wait c.args.kernel.now c.call.new.self c.args.pid asked.0 (rw c.in-Ok-Wait.field-0-is at c.in-Ok-Wait.ensures.answered))) c.begin_wait.ensures.held c.call.ensures.count }
