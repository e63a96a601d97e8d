use Rattle.std.proofs.Common.{ap, sym, ◌∙◌, rules}
use Rattle.ipc_kernel.specs.Outcomes.{Outcome}
use Rattle.ipc_kernel.specs.declared.call.Answer.TheVariants.{Done}
use Rattle.ipc_kernel.proofs.kernel.Kernel.carry_out_with_copy.Goals as goal

pub returns-in_ok-copy-in-Receives-clause-outcome : goal.returns-in_ok-copy-in-Receives-clause-outcome
returns-in_ok-copy-in-Receives-clause-outcome c = rw c.in-Receives.is (c.receive-reply.ensures.outcome c.args.pid)

pub returns-in_ok-copy-in-Receives-clause-copy : goal.returns-in_ok-copy-in-Receives-clause-copy
returns-in_ok-copy-in-Receives-clause-copy c =
    ap (λ r. Done r) c.in_ok-copy-in-Receives.ensures.first ∙ sym (ap (λ (o : Outcome). o.0) (c.receive-reply.ensures.outcome c.args.pid))

pub returns-in_ok-change-in-Answered-clause-outcome : goal.returns-in_ok-change-in-Answered-clause-outcome
returns-in_ok-change-in-Answered-clause-outcome c = search (rules, c.in-Answered.is, c.reply.ensures.value, c.in_ok-change-in-Answered.ensures.ok, c.in-Answered.reply)
