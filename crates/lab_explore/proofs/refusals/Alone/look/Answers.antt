use Rattle.std.proofs.Common.{sym, ◌∙◌}
use Rattle.lab_sched.specs.Held.{process_view}
use Rattle.lab_explore.proofs.QuietSteps.{calm_by}
use Rattle.lab_explore.proofs.refusals.Alone.look.Goals as goal

pub returns : goal.returns
returns c = record {
  calm = λ same.
      calm_by c.args.refusal.now c.args.self.now.kernel c.step.new.self.kernel c.args.self.now.pid (process_view c.args.self.now.process) (process_view c.step.new.self.process) c.in_ok-stepped.stepped
      c.in_ok-stepped.ensures.stepped (sym c.is_refused.ensures.value ∙ c.if-is_refused.false) (c.in_ok-found.ensures.quiet same);
}
