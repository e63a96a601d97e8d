use Rattle.std.proofs.Common.{◌++◌, ◌∷◌, [], refl, ap, ◌∙◌, rules}
use Rattle.lab_sched.proofs.ReportAdditions.{taken_none, taken_call}
use Rattle.lab_sched.proofs.world.World.take_steps.Goals as goal

pub returns-in-Ended-clause-taken : goal.returns-in-Ended-clause-taken
returns-in-Ended-clause-taken c = taken_none c.args.self.now c.find_next.new.self c.args.entries.now.items c.args.entries.now.items c.args.pid c.in-Ended.ensures.next refl

pub returns-in-Short-clause-taken : goal.returns-in-Short-clause-taken
returns-in-Short-clause-taken c = taken_none c.args.self.now c.find_next.new.self c.args.entries.now.items c.args.entries.now.items c.args.pid c.in-Short.ensures.next refl

pub returns-in_default-clause-taken : goal.returns-in_default-clause-taken
returns-in_default-clause-taken c = taken_none c.args.self.now c.find_next.new.self c.args.entries.now.items c.reserve.new.self.items c.args.pid c.in-Asks.ensures.next.0 c.reserve.ensures.items

pub returns-in_default-step-clause-taken : goal.returns-in_default-step-clause-taken
returns-in_default-step-clause-taken c = search (rules, taken_none, c.in_default-step.ensures.err, c.in-Asks.ensures.next.0, c.reserve.ensures.items)

pub returns-clause-taken : goal.returns-clause-taken
returns-clause-taken c =
    taken_call c.args.self.now c.find_next.new.self c.step.new.self c.args.entries.now.items c.push_reserved.new.self.items c.args.pid c.in-Asks.call c.in-Ok-step.stepped c.answer_of-answer.result
    c.requires.effective c.in-Asks.ensures.next c.in-Ok-step.ensures.told c.answer_of-answer.ensures.answer c.in-Ok-step.ensures.world
    (c.push_reserved.ensures.items ∙ ap (λ es. es ++ record { pid = c.args.pid; call = c.in-Asks.call; answer = c.answer_of-answer.result } ∷ []) c.reserve.ensures.items)
