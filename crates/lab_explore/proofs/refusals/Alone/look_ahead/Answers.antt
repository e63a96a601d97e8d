use Rattle.std.proofs.Common.{refl, sym, ◌∙◌, arith}
use Rattle.lab_sched.specs.Held.{process_view}
use Rattle.lab_explore.proofs.QuietSteps.{stepped_back, stepped_still}
use Rattle.lab_explore.proofs.refusals.Alone.look_ahead.Goals as goal

pub returns-then-not-is_local : goal.returns-then-not-is_local
returns-then-not-is_local c = record {
  quiet = λ same.
      c.loop-taken.invariant.quiet
      (stepped_still c.args.refusal.now c.loop-taken.self.kernel c.step.new.self.kernel c.loop-taken.self.pid (process_view c.loop-taken.self.process) (process_view c.step.new.self.process) c.in_ok-stepped.stepped
      c.in_ok-stepped.ensures.stepped (c.if-not-is_local.ensures.no refl));
}

pub loop-taken-preserved : goal.loop-taken-preserved
loop-taken-preserved c =
    let count = c.step.ensures.count in
    let pid = c.step.ensures.pid in
    let within = c.loop-taken.invariant.process in
    record {
      held = c.step.ensures.held;
      process = omega (arith, count, pid, within);
      quiet = λ quiet.
          c.loop-taken.invariant.quiet
          (stepped_back c.args.refusal.now c.loop-taken.self.kernel c.step.new.self.kernel c.loop-taken.self.pid (process_view c.loop-taken.self.process) (process_view c.step.new.self.process) c.in_ok-stepped.stepped
          c.in_ok-stepped.ensures.stepped (sym c.is_refused.ensures.value ∙ c.if-is_refused.false) quiet);
    }
