use Rattle.std.proofs.Common.{◌-◌, ◌≤◌}
use Rattle.lab_sched.specs.Held.{process_view, IsHeld}
use Rattle.lab_sched.specs.LocalRun.{AreLocal}
use Rattle.lab_worlds.specs.Errors.{AreLocalAmong}
use Rattle.lab_worlds.proofs.ahead.run_on.Given as goal

abbrev pub invariant-loop-taken : goal.invariant-loop-taken
invariant-loop-taken l = record {
  local : AreLocal l.taken (process_view l.fn.process) (process_view l.process);
  errors : AreLocalAmong l.errors l.taken (process_view l.fn.process) (process_view l.process);
  held : IsHeld l.process;
  within : l.taken ≤ l.most;
}

abbrev pub decreases-loop-taken : goal.decreases-loop-taken
decreases-loop-taken l = l.most - l.taken
