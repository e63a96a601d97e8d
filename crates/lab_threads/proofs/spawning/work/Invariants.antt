use Rattle.std.proofs.Common.{◌≡◌}
use Rattle.lab_sched.specs.LocalRun.{IsLocalRun}
use Rattle.lab_sched.specs.Held.{process_view, IsHeld}
use Rattle.lab_threads.specs.Private.WorkerLogs.{allowance}
use Rattle.lab_threads.proofs.spawning.work.Given as goal

abbrev pub invariant-loop : goal.invariant-loop
invariant-loop g l = record {
  alone : IsLocalRun (process_view l.fn.start) l.log.trace (process_view l.process);
  within : allowance l.log ≡ l.limit;
  held : IsHeld l.fn.start → IsHeld l.process;
}
