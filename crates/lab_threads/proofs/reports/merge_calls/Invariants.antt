use Rattle.std.proofs.Common.{◌≡◌, ℕ, length, take, drop, List}
use Rattle.ipc_kernel.specs.Kernel.{empty_kernel}
use Rattle.lab_sched.specs.History.{IsLegal}
use Rattle.lab_sched.specs.Schedules.{steps_of}
use Rattle.lab_sched.specs.declared.process.Process.{Process as ProcessValue}
use Rattle.lab_threads.specs.Private.WorkerResults.{AreWorkerResults}
use Rattle.lab_threads.specs.Private.Merged.{IsMerged}
use Rattle.lab_threads.proofs.reports.merge_calls.Given as goal

abbrev pub invariant-loop-entry : goal.invariant-loop-entry
invariant-loop-entry l = record {
  len : length l.next.items ≡ length l.workers;
  merged : (starts : List ProcessValue) (limit : ℕ) → AreWorkerResults limit starts l.workers → IsLegal (empty_kernel (length starts)) l.history
      → IsMerged starts l.workers l.next.items (steps_of l.schedule) (take l.entry-index l.history) (drop l.entry-index l.history);
}
