use Rattle.std.proofs.Common.{◌≡◌, ap}
use Rattle.ipc_kernel.specs.Outcomes.{Outcome}
use Rattle.ipc_kernel.specs.Private.Decisions.{outcome_of}
use Rattle.ipc_kernel.proofs.LawfulAnswers.{given_form}
use Rattle.ipc_kernel.proofs.kernel.Kernel.conclude.Goals as goal

pub returns-clause-form : goal.returns-clause-form
returns-clause-form c =
    given_form c.carry_out-answer.result (λ a. (a, c.carry_out-answer.new.self) ≡ outcome_of c.args.self.now c.args.pid c.args.decision) (λ a. a) c.args.self.now c.args.pid c.args.call.now c.args.decision
    c.requires.outcome c.requires.size c.requires.limit (λ a is. ap (λ (o : Outcome). o.0) is) c.carry_out-answer.ensures.outcome
