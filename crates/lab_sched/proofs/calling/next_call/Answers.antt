use Rattle.std.proofs.Common.{ap, sym, ◌∙◌}
use Rattle.lc3_machine.specs.declared.machine.Progress.TheVariants.{Stopped}
use Rattle.lab_sched.specs.Held.{process_view}
use Rattle.lab_sched.proofs.LocalSteps.{end_asks}
use Rattle.lab_sched.proofs.calling.next_call.Goals as goal

pub returns-in-Stopped-End-clause-next : goal.returns-in-Stopped-End-clause-next
returns-in-Stopped-End-clause-next c = λ most some.
    let end = rw c.in-Stopped-End.is at c.in-Stopped-End.field-0-is in
    (ap process_view (sym c.in-Running.is), end_asks c.args.process.now c.in-Running.running c.args.progress c.in-Stopped-End.field-0-0 c.in-Running.is (c.in-Stopped-End.is ∙ ap Stopped end) c.requires.stops)
