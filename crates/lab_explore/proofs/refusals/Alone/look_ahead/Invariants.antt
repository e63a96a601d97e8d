use Rattle.std.proofs.Common.{◌<◌, length}
use Rattle.lab_sched.specs.Held.{process_view, IsHeld}
use Rattle.lab_explore.specs.Private.Judged.{IsQuiet}
use Rattle.lab_explore.proofs.refusals.Alone.look_ahead.Given as goal

-- the process was as quiet as it is after the steps that it has taken
abbrev pub invariant-loop-taken : goal.invariant-loop-taken
invariant-loop-taken l = record {
  held : IsHeld l.self.process;
  process : l.self.pid < length l.self.kernel.processes;
  quiet : IsQuiet l.refusal (process_view l.self.process) → IsQuiet l.refusal (process_view l.fn.self.process);
}
