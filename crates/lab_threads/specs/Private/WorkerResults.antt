-- What the workers bring back.
use Rattle.std.specs.Prelude.{ℕ, ◌≡◌, ◌+◌, List, Some, slice_get, length}
use Rattle.lab_sched.specs.LocalRun.{IsLocalRun, steps}
use Rattle.lab_sched.specs.Held.{process_view, IsHeld}
use Rattle.lab_sched.specs.declared.process.Process.{Process}
use Rattle.lab_threads.specs.declared.spawning.WorkerResult.{WorkerResult}

-- a process came from its start by its trace, the steps of the trace and those that are left make
-- the limit, and the process is ready for the reply that it may wait for
pub record IsWorkerResult (limit : ℕ) (start : Process) (w : WorkerResult) : Type 0 where
  pub alone : IsLocalRun (process_view start) w.trace (process_view w.process)
  pub within : steps w.trace + w.left ≡ limit
  pub held : IsHeld start → IsHeld w.process

-- each result is of the start at its place
pub record AreWorkerResults
    (limit : ℕ) (starts : List Process) (ws : List WorkerResult) : Type 0 where
  pub len : length ws ≡ length starts
  pub each : (p : ℕ) (s : Process) (w : WorkerResult) → slice_get starts p ≡ Some s
      → slice_get ws p ≡ Some w → IsWorkerResult limit s w
