use Rattle.std.proofs.Common.{ap, rules}
use Rattle.lab_sched.specs.Held.{process_view}
use Rattle.lab_sched.proofs.LocalSteps.{came, end_told}
use Rattle.lab_sched.proofs.stepping.step_end.Goals as goal

pub returns : goal.returns
returns c = record { steps = came (end_told c.args.kernel.now c.call.new.self c.args.pid (process_view c.args.process.now) (process_view c.end_process.new.process) c.args.how c.requires.stands (search rules) (ap (λ o. o.1) c.in_ok-call.ensures.answered)) c.end_process.ensures.held c.call.ensures.count }
