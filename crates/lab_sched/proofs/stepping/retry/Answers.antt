use Rattle.std.proofs.Common.{◌∙◌, ap, sym, rules}
use Rattle.lab_sched.specs.Held.{StepResult, process_view, step_of}
use Rattle.lab_sched.proofs.LocalSteps.{came, wait_step}
use Rattle.lab_sched.proofs.stepping.retry.Goals as goal

pub returns-in-Wait : goal.returns-in-Wait
returns-in-Wait c = record { steps = came (wait_step c.args.kernel.now c.call.new.self c.args.pid c.in-Waiting.field-0.process c.in-Waiting.call (rw c.in-Wait.is at c.in_ok-call-in-Waiting.ensures.answered) ∙ ap {B = StepResult} (λ s. step_of c.args.kernel.now c.args.pid (process_view s)) (sym c.in-Waiting.is)) (search rules) c.call.ensures.count }
