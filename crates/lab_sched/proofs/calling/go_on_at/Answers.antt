use Rattle.std.proofs.Common.{◌∙◌, ap, refl, rules}
use Rattle.ipc_kernel.specs.declared.call.Answer.TheVariants.{Done}
use Rattle.lab_sched.specs.declared.stepped.Stepped.TheVariants.{Refused, Called, Waits}
use Rattle.lab_sched.proofs.LocalSteps.{came, asked_room, tried_refused, tried_reply, tried_wait}
use Rattle.lab_sched.proofs.calling.go_on_at.Goals as goal

pub give_word-requires : goal.give_word-requires
give_word-requires c =
    let asked = rw c.in-Kernel.is at c.in_ok-call.ensures.asked in
    record { trap = (c.args.vector, rw asked.1 c.requires.trap) }

pub returns-in-Ok-Done-Plain : goal.returns-in-Ok-Done-Plain
returns-in-Ok-Done-Plain c =
    let asked = rw c.in-Kernel.is at c.in_ok-call.ensures.asked in
    let is = c.in-Ok-Done-Plain.field-0-is ∙ ap Done c.in-Ok-Done-Plain.field-0-0-is in
    record { goes = came (Called _, tried_reply c.args.kernel.now c.call.new.self c.args.pid asked (rw is at c.in-Ok-Done-Plain.ensures.answered) c.give_word.ensures.replied, refl) tt c.call.ensures.count }

pub give_reply-requires : goal.give_reply-requires
give_reply-requires c = search (rules, asked_room)

pub returns-in-Ok-Done : goal.returns-in-Ok-Done
returns-in-Ok-Done c =
    let asked = rw c.in-Kernel.is at c.in_ok-call.ensures.asked in
    record { goes = came (Called _, tried_reply c.args.kernel.now c.call.new.self c.args.pid asked (rw c.in-Ok-Done.field-0-is at c.in-Ok-Done.ensures.answered) c.give_reply.ensures.replied, refl) tt c.call.ensures.count }

pub returns-in-Ok-Wait : goal.returns-in-Ok-Wait
returns-in-Ok-Wait c =
    let asked = rw c.in-Kernel.is at c.in_ok-call.ensures.asked in
    let room = rw c.in-Kernel.is at c.in_ok-call.ensures.room in
    record { goes = came ((Waits, tried_wait c.args.kernel.now c.call.new.self c.args.pid asked.0 (rw c.in-Ok-Wait.field-0-is at c.in-Ok-Wait.ensures.answered), refl), asked.1, (rw asked.1 asked.0, room)) tt c.call.ensures.count }

pub returns : goal.returns
returns c = record { goes = came (Refused _, tried_refused c.args.kernel.now c.args.pid _ _ (rw c.in-Refused.is at c.in_ok-call.ensures.asked), refl) tt refl }
