-- What joined threads bring back, by what their handles promised.
use Rattle.std.proofs.Common.{ℕ, ◌≡◌, ◌<◌, List, Some, map, length, get_or, slice_get, ap, sym, subst, refl, ◌∙◌}
use Rattle.std.proofs.lemmas.List.{length-map}
use Rattle.std.proofs.lemmas.Option.{slice_get-map, slice_get_read, slice_get_within, get_or_from_slice_get, same_Some}
use Rattle.std.specs.Option.{option_map}
use Rattle.std.specs.declared.thread.PromisedHandle.{PromisedHandle}
use Rattle.lab_sched.specs.declared.process.Process.{Process}
use Rattle.lab_threads.specs.declared.spawning.WorkerResult.{WorkerResult}
use Rattle.lab_threads.specs.declared.spawning.WorkerPromise.{WorkerPromise}
use Rattle.lab_threads.specs.Private.Promised.{promise_of, due}
use Rattle.lab_threads.specs.Private.WorkerResults.{IsWorkerResult, AreWorkerResults}

-- the handle at a place promises what is due there
module _ (hs : List (PromisedHandle WorkerResult WorkerPromise)) (ws : List WorkerResult) (starts : List Process) (limit : ℕ) where
  due_at : map promise_of hs ≡ map (due limit) starts → (p : ℕ) (s : Process) (h : PromisedHandle WorkerResult WorkerPromise)
      → slice_get starts p ≡ Some s → slice_get hs p ≡ Some h → promise_of h ≡ due limit s
  due_at e p s h at_s at_h =
      same_Some (promise_of h) (due limit s)
      (ap (λ o. option_map promise_of o) (sym at_h) ∙ sym (slice_get-map promise_of hs p) ∙ ap (λ xs. slice_get xs p) e ∙ slice_get-map (due limit) starts p ∙ ap (λ o. option_map (due limit) o) at_s)

  pub joined_workers : length ws ≡ length hs
      → ((i : ℕ) (w : WorkerResult) → i < length hs → (h : PromisedHandle WorkerResult WorkerPromise) × (h ≡ get_or hs i h) × IsWorkerResult h.promise.limit h.promise.start.value (get_or ws i w))
      → map promise_of hs ≡ map (due limit) starts → AreWorkerResults limit starts ws
  joined_workers len kept e = record {
    len = len ∙ sym (length-map hs promise_of) ∙ ap length e ∙ length-map starts (due limit);
    each = λ p s w at_s at_w.
        let within : p < length hs = subst (λ n. p < n) len (slice_get_within ws p w at_w) in
        let k = kept p w within in
        let at_h : slice_get hs p ≡ Some k.0 = slice_get_read hs (length hs) p k.0 refl within k.1 in
        let is = due_at e p s k.0 at_s at_h in
        let P : Process × ℕ → Type 0 = λ x. IsWorkerResult x.1 x.0 w in
        subst P is (subst (λ v. IsWorkerResult k.0.promise.limit k.0.promise.start.value v) (get_or_from_slice_get ws p w w at_w) k.2);
  }
