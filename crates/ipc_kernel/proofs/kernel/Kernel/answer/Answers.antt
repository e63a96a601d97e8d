use Rattle.ipc_kernel.proofs.LawfulAnswers.{decided_form, given_form, received_alone}
use Rattle.ipc_kernel.proofs.kernel.Kernel.answer.Goals as goal
use Rattle.std.proofs.Common.{rules}

pub returns-clause-form : goal.returns-clause-form
returns-clause-form c =
    given_form c.preview.result _ (λ a. a) c.args.self.now c.args.pid c.args.call.now c.decide-decision.result
    c.decide-decision.ensures.outcome c.decide-decision.ensures.size c.decide-decision.ensures.limit (λ a is. is) (c.preview.ensures.outcome c.args.pid)

pub returns-clause-memory : goal.returns-clause-memory
returns-clause-memory c failed = search (rules, received_alone, decided_form)
