-- The world that workers and a history lead to, and how the steps of the workers are merged along a
-- history.
use Rattle.std.specs.Prelude.{ℕ, ◌≡◌, ◌+◌, List, [], Some, map, length, slice_get, slice_index, drop}
use Rattle.ipc_kernel.specs.Kernel.{empty_kernel}
use Rattle.lab_sched.specs.Worlds.{Process, WorldState}
use Rattle.lab_sched.specs.Execution.{IsExecution, count}
use Rattle.lab_sched.specs.LocalRun.{Leads, weight, steps}
use Rattle.lab_sched.specs.History.{IsLegal, replay}
use Rattle.lab_sched.specs.Held.{process_view}
use Rattle.lab_sched.specs.Starts.{initial_world}
use Rattle.lab_sched.specs.declared.stepped.Entry.{Entry}
use Rattle.lab_sched.specs.declared.process.Process.{Process as ProcessValue}
use Rattle.lab_sched.specs.declared.trace.TracedCall.{TracedCall}
use Rattle.lab_threads.specs.declared.spawning.WorkerResult.{WorkerResult}
use Rattle.lab_threads.specs.Private.WorkerResults.{AreWorkerResults}

-- the processes where the workers stopped, over the kernel after the history
abbrev pub final_world : ℕ → List WorkerResult → List Entry → WorldState
final_world n workers history = record {
  processes = map (λ k. process_view k.process) workers;
  kernel = replay (empty_kernel n) history;
}

-- the call that stands there is the entry's, and so many local steps stand before it
pub record IsFound (calls : List TracedCall) (at : ℕ) (e : Entry) (before : ℕ) : Type 0 where
  pub told : TracedCall
  pub here : slice_get calls at ≡ Some told
  pub call : told.call ≡ e.call
  pub answer : told.answer ≡ e.answer
  pub count : told.before ≡ before

-- the call that stands next in the trace of the entry's process is the entry's
pub record IsItem
    (workers : List WorkerResult) (next : List ℕ) (e : Entry) (before : ℕ) : Type 0 where
  pub worker : WorkerResult
  pub at : slice_get workers e.pid ≡ Some worker
  pub found : IsFound worker.trace.calls.items (slice_index next e.pid) e before

-- what is left of a trace leads from where its process is to where its worker stopped, and its steps
-- and those that were taken are the steps of the trace
pub record IsLeft (x : Process) (k : WorkerResult) (next taken : ℕ) : Type 0 where
  pub leads : Leads x (drop next k.trace.calls.items) k.trace.after (process_view k.process)
  pub counted : taken + (weight (drop next k.trace.calls.items) + k.trace.after) ≡ steps k.trace

-- so it is of each trace
abbrev pub AreLeft : List Process → List WorkerResult → List ℕ → List ℕ → Type 0
AreLeft xs workers next ps = (p : ℕ) (x : Process) (k : WorkerResult) → slice_get xs p ≡ Some x
    → slice_get workers p ≡ Some k → IsLeft x k (slice_index next p) (count p ps)

-- the steps so far lead to a world where the rest of the history is legal, and the rests of the
-- traces are left
pub record IsMerged
    (starts : List ProcessValue) (workers : List WorkerResult) (next : List ℕ) (ps : List ℕ)
    (done rest : List Entry) : Type 0 where
  pub world : WorldState
  pub execution : IsExecution (initial_world starts) ps world done
  pub legal : IsLegal world.kernel rest
  pub len : length world.processes ≡ length workers
  pub left : AreLeft world.processes workers next ps

-- wherever the workers began, if the history is legal there, the steps so far have all its calls
abbrev pub AreCallsMerged : List WorkerResult → List Entry → List ℕ → List ℕ → Type 0
AreCallsMerged workers history next ps = (starts : List ProcessValue) (limit : ℕ)
    → AreWorkerResults limit starts workers → IsLegal (empty_kernel (length starts)) history
    → IsMerged starts workers next ps history []

-- the steps lead to where the workers stopped, with this history, and they are the steps of the traces
pub record LeadToEnds
    (starts : List ProcessValue) (workers : List WorkerResult) (history : List Entry)
    (ps : List ℕ) : Type 0 where
  pub execution :
      IsExecution (initial_world starts) ps (final_world (length starts) workers history) history
  pub counts : (p : ℕ) (k : WorkerResult) → slice_get workers p ≡ Some k → count p ps ≡ steps k.trace

-- wherever the workers began, and whichever history has its calls in the steps before, all steps do
abbrev pub CompletesMerge : List WorkerResult → List ℕ → List ℕ → List ℕ → Type 0
CompletesMerge workers next before ps = (starts : List ProcessValue) (history : List Entry)
    → IsMerged starts workers next before history [] → LeadToEnds starts workers history ps

-- wherever the workers began, if the history is legal there, the steps do
abbrev pub LeadToResults : List WorkerResult → List Entry → List ℕ → Type 0
LeadToResults workers history ps = (starts : List ProcessValue) (limit : ℕ)
    → AreWorkerResults limit starts workers → IsLegal (empty_kernel (length starts)) history
    → LeadToEnds starts workers history ps
