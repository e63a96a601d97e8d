use Rattle.std.proofs.Common.{◌≡◌, ap, rules}
use Rattle.ipc_kernel.specs.Outcomes.{Outcome}
use Rattle.ipc_kernel.specs.Private.Decisions.{outcome_of}
use Rattle.ipc_kernel.proofs.LawfulAnswers.{given_form, decided_form, grown_or_received}
use Rattle.ipc_kernel.proofs.kernel.Kernel.call_with_copy.Goals as goal

pub returns-clause-form : goal.returns-clause-form
returns-clause-form c =
    given_form c.carry_out_with_copy-answers.result (λ r. (r.0, c.carry_out_with_copy-answers.new.self) ≡ outcome_of c.args.self.now c.args.pid c.decide-decision.result) (λ r. r.0)
    c.args.self.now c.args.pid c.args.call.now c.decide-decision.result c.decide-decision.ensures.outcome c.decide-decision.ensures.size c.decide-decision.ensures.limit
    (λ r is. ap (λ (o : Outcome). o.0) is) c.carry_out_with_copy-answers.ensures.outcome

pub returns-clause-memory : goal.returns-clause-memory
returns-clause-memory c failed = search (rules, grown_or_received, decided_form)
