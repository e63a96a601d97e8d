-- What the handles of the workers promise.
use Rattle.std.specs.Prelude.{ℕ, ◌≡◌, List, map}
use Rattle.std.specs.declared.thread.PromisedHandle.{PromisedHandle}
use Rattle.lab_sched.specs.declared.process.Process.{Process}
use Rattle.lab_threads.specs.declared.spawning.WorkerResult.{WorkerResult}
use Rattle.lab_threads.specs.declared.spawning.WorkerPromise.{WorkerPromise}

-- where the worker began, and how many steps it may take
abbrev pub promise_of : PromisedHandle WorkerResult WorkerPromise → Process × ℕ
promise_of h = (h.promise.start.value, h.promise.limit)

-- a start, with the limit
abbrev pub due : ℕ → Process → Process × ℕ
due limit s = (s, limit)

-- each handle promises the result of the start at its place
abbrev pub ArePromised : ℕ → List Process
    → List (PromisedHandle WorkerResult WorkerPromise) → Type 0
ArePromised limit starts handles = map promise_of handles ≡ map (due limit) starts
