-- Traces that are merged along a history.
use Rattle.std.proofs.Common.{ℕ, zero, suc, ◌+◌, ◌≡◌, ◌<◌, ◌≤◌, ◌++◌, List, [], ◌∷◌, Some, refl, sym, ap, subst, ◌∙◌, arith, length, set, slice_get, get_or, drop, map, replicate, ◌≢◌, inl, inr, rules}
use Rattle.std.specs.Option.{option_map}
use Rattle.std.specs.Prelude.{Result, IfOk}
use Rattle.std.proofs.lemmas.List.{length-set, length-map, append-nil, get_or-set_same, get_or-set_other, drop_more, drop_all, get_or_read}
use Rattle.std.proofs.lemmas.Option.{slice_get-get_or, slice_get_within, slice_get-map, get_or_from_slice_get, same_Some}
use Rattle.std.proofs.lemmas.Bool.Decides.{eqb_tells}
use Rattle.ipc_kernel.specs.Kernel.{empty_kernel}
use Rattle.ipc_kernel.specs.Answer.{answer}
use Rattle.lab_sched.specs.Worlds.{Process, WorldState}
use Rattle.lab_sched.specs.Execution.{count, IsExecution}
use Rattle.lab_sched.specs.LocalRun.{AreLocal, Leads, weight, steps}
use Rattle.lab_sched.specs.History.{IsLegal}
use Rattle.lab_sched.specs.Held.{process_view}
use Rattle.lab_sched.specs.Schedules.{steps_of}
use Rattle.lab_sched.specs.Starts.{initial_world}
use Rattle.lab_sched.specs.declared.schedule.Block.{Block}
use Rattle.lab_sched.specs.declared.stepped.Entry.{Entry}
use Rattle.lab_sched.specs.declared.process.Process.{Process as ProcessValue}
use Rattle.lab_sched.specs.declared.trace.TracedCall.{TracedCall}
use Rattle.lab_sched.proofs.ListPlaces.{get-set_same, get-set_other}
use Rattle.lab_sched.proofs.Executions.{count-append, count-replicate_same, count-replicate_other, execution_none, execution_append, execution_of_call, execution_local, with_process, called, execution_kernel}
use Rattle.lab_threads.specs.declared.spawning.WorkerResult.{WorkerResult}
use Rattle.lab_threads.specs.Private.WorkerResults.{AreWorkerResults}
use Rattle.lab_threads.specs.Private.Merged.{final_world, IsFound, IsItem, IsLeft, AreLeft, IsMerged, LeadToEnds}

pub some_at : {A : Type 0} (xs : List A) (p : ℕ) → p < length xs → (x : A) × (slice_get xs p ≡ Some x)
some_at [] p h = absurd (omega arith)
some_at (x ∷ xs) zero h = (x, refl)
some_at (x ∷ xs) (suc p) h = some_at xs p (omega arith)

pub merged_none : (starts : List ProcessValue) (workers : List WorkerResult) (next ps : List ℕ) (limit : ℕ) (history : List Entry)
    → AreWorkerResults limit starts workers → IsLegal (empty_kernel (length starts)) history → ((p : ℕ) → get_or next p 0 ≡ 0) → ps ≡ [] → IsMerged starts workers next ps [] history
merged_none starts workers next ps limit history are legal zeros none = record {
  world = initial_world starts;
  execution = subst (λ qs. IsExecution (initial_world starts) qs (initial_world starts) []) (sym none) (execution_none (initial_world starts));
  legal = legal;
  len = length-map starts process_view ∙ sym are.len;
  left = λ p x k at_x at_k.
      let start = some_at starts p (subst (λ n. p < n) are.len (slice_get_within workers p k at_k)) in
      let is : x ≡ process_view start.0 = same_Some x (process_view start.0) (sym at_x ∙ slice_get-map process_view starts p ∙ ap (λ o. option_map process_view o) start.1) in
      record { leads = rw (zeros p, is) (are.each p start.0 k start.1 at_k).alone; counted = rw (zeros p, none) (omega arith) };
}

count_others : (p q n : ℕ) (ps : List ℕ) → q ≢ p → count p (ps ++ replicate n q) ≡ count p ps
count_others p q n ps ne = omega (arith, count-append p ps (replicate n q), count-replicate_other p q n ne)

drop_get : {A : Type 0} (xs : List A) (i : ℕ) (x : A) → slice_get xs i ≡ Some x → drop i xs ≡ x ∷ drop (i + 1) xs
drop_get xs i x at =
    drop_more xs i x (slice_get_within xs i x at) ∙ ap (λ y. y ∷ drop (i + 1) xs) (get_or_from_slice_get xs i x x at)

-- the process of one worker has gone on to behind its next call, and its place in the trace with it
left_more : (xs : List Process) (workers : List WorkerResult) (next ps : List ℕ) → AreLeft xs workers next ps → (p : ℕ) (x y : Process) (k : WorkerResult) (t : TracedCall) → slice_get xs p ≡ Some x
    → slice_get workers p ≡ Some k → slice_get k.trace.calls.items (get_or next p 0) ≡ Some t → p < length next
    → Leads y (drop (get_or next p 0 + 1) k.trace.calls.items) k.trace.after (process_view k.process)
    → AreLeft (set xs p y) workers (set next p (get_or next p 0 + 1)) (ps ++ replicate (t.before + 1) p)
left_more xs workers next ps left p x y k t at_x at_k at_t within leads q z l at_z at_l = elim (eqb_tells p q) [
  | inl same ↦
      let at_y : slice_get (set xs p y) q ≡ Some y = rw (← same.1) (get-set_same xs p y (slice_get_within xs p x at_x)) in
      let y_z : y ≡ z = same_Some y z (sym at_y ∙ at_z) in
      let k_l : k ≡ l = same_Some k l (sym at_k ∙ (rw same.1 at_l)) in
      let n : get_or (set next p (get_or next p 0 + 1)) q 0 ≡ get_or next p 0 + 1 = rw (← same.1) (get_or-set_same next p (get_or next p 0 + 1) 0 within) in
      let old = (left p x k at_x at_k).counted in
      let weights = ap weight (drop_get k.trace.calls.items (get_or next p 0) t at_t) in
      let counts = count-append p ps (replicate (t.before + 1) p) in
      let mine = count-replicate_same p (t.before + 1) in
      rw (← k_l, n, ← same.1, ← y_z) (record { leads = leads; counted = omega (arith, counts, mine, weights, old) })
  | inr other ↦
      let n : get_or (set next p (get_or next p 0 + 1)) q 0 ≡ get_or next q 0 = get_or-set_other next p q (get_or next p 0 + 1) 0 (λ e. other.1 (sym e)) in
      rw (n, count_others q p (t.before + 1) ps other.1) (left q z l (sym (get-set_other xs p q y other.1) ∙ at_z) at_l)
]

-- one more entry: the local steps before it, and its call
merged_more : (starts : List ProcessValue) (workers : List WorkerResult) (next ps : List ℕ) (done rest : List Entry) (e : Entry) (k : WorkerResult) (t : TracedCall)
    → IsMerged starts workers next ps done (e ∷ rest) → slice_get workers e.pid ≡ Some k → e.pid < length next
    → slice_get k.trace.calls.items (get_or next e.pid 0) ≡ Some t → t.call ≡ e.call → t.answer ≡ e.answer
    → IsMerged starts workers (set next e.pid (get_or next e.pid 0 + 1)) (ps ++ replicate (t.before + 1) e.pid) (done ++ e ∷ []) rest
merged_more starts workers next ps done rest e k t is at_k within at_t same_call same_answer =
    let w = is.world in
    let below : e.pid < length w.processes = subst (λ n. e.pid < n) (sym is.len) (slice_get_within workers e.pid k at_k) in
    let x = get_or w.processes e.pid (process_view k.process) in
    let at_x : slice_get w.processes e.pid ≡ Some x = slice_get-get_or w.processes e.pid (process_view k.process) below in
    let leads : Leads x (t ∷ drop (get_or next e.pid 0 + 1) k.trace.calls.items) k.trace.after (process_view k.process) =
    subst (λ ts. Leads x ts k.trace.after (process_view k.process)) (drop_get k.trace.calls.items (get_or next e.pid 0) t at_t) (is.left e.pid x k at_x at_k).leads in
    let y = leads.1 in
    let answered : t.answer ≡ (answer w.kernel e.pid t.call).0 = same_answer ∙ is.legal.0 ∙ ap (λ c. (answer w.kernel e.pid c).0) (sym same_call) in
    let item = execution_of_call w e.pid x leads.0 y t at_x leads.2 leads.3 answered in
    let entry : IsExecution w (replicate (t.before + 1) e.pid) (called w e.pid t.call y) (e ∷ []) =
    subst (λ c. IsExecution w (replicate (t.before + 1) e.pid) (called w e.pid t.call y) (record { pid = e.pid; call = c; answer = e.answer } ∷ [])) same_call
    (subst (λ a. IsExecution w (replicate (t.before + 1) e.pid) (called w e.pid t.call y) (record { pid = e.pid; call = t.call; answer = a } ∷ [])) same_answer item) in
    record {
      world = called w e.pid t.call y;
      execution = execution_append is.execution entry;
      legal = subst (λ c. IsLegal (answer w.kernel e.pid c).1 rest) (sym same_call) is.legal.1;
      len = length-set w.processes e.pid y ∙ is.len;
      left = left_more w.processes workers next ps is.left e.pid x y k t at_x at_k at_t within leads.4;
    }

-- all entries are merged, and the traces below i have ended
pub record IsEnding (starts : List ProcessValue) (workers : List WorkerResult) (next ps : List ℕ) (history : List Entry) (i : ℕ) : Type 0 where
  pub world : WorldState
  pub execution : IsExecution (initial_world starts) ps world history
  pub len : length world.processes ≡ length workers
  pub done : (p : ℕ) (x : Process) (k : WorkerResult) → p < i → slice_get world.processes p ≡ Some x → slice_get workers p ≡ Some k
      → (x ≡ process_view k.process) × (count p ps ≡ steps k.trace)
  pub left : (p : ℕ) (x : Process) (k : WorkerResult) → i ≤ p → slice_get world.processes p ≡ Some x → slice_get workers p ≡ Some k
      → IsLeft x k (get_or next p 0) (count p ps)

-- one more worker whose trace has ended
pub ending_step : {starts : List ProcessValue} {workers : List WorkerResult} {next ps ps' : List ℕ} {history : List Entry} {i : ℕ} (k : WorkerResult) → slice_get workers i ≡ Some k
    → get_or next i 0 ≡ length k.trace.calls.items → ps' ≡ ps ++ replicate k.trace.after i → IsEnding starts workers next ps history i
    → IsEnding starts workers next ps' history (i + 1)
unfolding with_process
ending_step {starts} {workers} {next} {ps} {ps'} {history} {i} k at_k whole ps-is is =
    let w = is.world in
    let u = process_view k.process in
    let below : i < length w.processes = subst (λ n. i < n) (sym is.len) (slice_get_within workers i k at_k) in
    let x = get_or w.processes i u in
    let at_x : slice_get w.processes i ≡ Some x = slice_get-get_or w.processes i u below in
    let none : drop (get_or next i 0) k.trace.calls.items ≡ [] = drop_all (get_or next i 0) k.trace.calls.items (omega (arith, whole)) in
    let mine = is.left i x k (omega arith) at_x at_k in
    let locals : AreLocal k.trace.after x u = subst (λ ts. Leads x ts k.trace.after u) none mine.leads in
    let both = execution_append is.execution (execution_local k.trace.after w i x u at_x locals) in
    rw ps-is (record {
      world = with_process w i u;
      execution = subst (λ es. IsExecution (initial_world starts) (ps ++ replicate k.trace.after i) (with_process w i u) es) (append-nil history) both;
      len = length-set w.processes i u ∙ is.len;
      done = λ p z l under at_z at_l. elim (eqb_tells i p) [
        | inl same ↦
            let at_i : slice_get (set w.processes i u) p ≡ Some u = rw (← same.1) (get-set_same w.processes i u below) in
            let k_l : k ≡ l = same_Some k l (sym at_k ∙ (rw same.1 at_l)) in
            let counts = count-append i ps (replicate k.trace.after i) in
            let own = count-replicate_same i k.trace.after in
            let weights : weight (drop (get_or next i 0) k.trace.calls.items) ≡ 0 = ap weight none in
            (same_Some z u (sym at_z ∙ at_i) ∙ ap (λ v. process_view v.process) k_l, rw (← k_l, ← same.1) (omega (arith, counts, own, mine.counted, weights)))
        | inr other ↦
            rw (count_others p i k.trace.after ps other.1) (is.done p z l (let ne = other.1 in omega arith) (sym (get-set_other w.processes i p u other.1) ∙ at_z) at_l)
      ];
      left = λ p z l above at_z at_l.
          let ne : i ≢ p = λ e. absurd (omega (arith, e)) in
          rw (count_others p i k.trace.after ps ne) (is.left p z l (omega arith) (sym (get-set_other w.processes i p u ne) ∙ at_z) at_l);
    })

same_processes : (xs : List Process) (ks : List WorkerResult) → length xs ≡ length ks
    → ((p : ℕ) (x : Process) (k : WorkerResult) → slice_get xs p ≡ Some x → slice_get ks p ≡ Some k → x ≡ process_view k.process)
    → xs ≡ map (λ k. process_view k.process) ks
same_processes [] [] len each = refl
same_processes [] (k ∷ ks) len each = absurd (omega arith)
same_processes (x ∷ xs) [] len each = absurd (omega arith)
same_processes (x ∷ xs) (k ∷ ks) len each =
    let rest = same_processes xs ks (omega arith) (λ p. each (suc p)) in
    ap (λ y. y ∷ xs) (each 0 x k refl refl) ∙ ap (λ ys. process_view k.process ∷ ys) rest

pub ending_all : (starts : List ProcessValue) (workers : List WorkerResult) (next ps : List ℕ) (history : List Entry) → IsEnding starts workers next ps history (length workers)
    → LeadToEnds starts workers history ps
ending_all starts workers next ps history is =
    let w = is.world in
    let processes : w.processes ≡ map (λ k. process_view k.process) workers = same_processes w.processes workers is.len (λ p x k at_x at_k. (is.done p x k (slice_get_within workers p k at_k) at_x at_k).0) in
    let e : w ≡ final_world (length starts) workers history = ap (λ xs. record { processes = xs; kernel = w.kernel }) processes ∙ ap (λ k. record { processes = map (λ k. process_view k.process) workers; kernel = k }) (execution_kernel is.execution) in
    record {
      execution = subst (λ v. IsExecution (initial_world starts) ps v history) e is.execution;
      counts = λ p k at.
          let below = slice_get_within workers p k at in
          let x = some_at w.processes p (subst (λ n. p < n) (sym is.len) below) in
          (is.done p x.0 k below x.1 at).1;
    }

-- one more entry of the history
pub merged_step : {starts : List ProcessValue} {workers : List WorkerResult} {next next' ps ps' : List ℕ} {done done' rest rest' : List Entry} {e : Entry} {n before : ℕ}
    → rest ≡ e ∷ rest' → done' ≡ done ++ e ∷ [] → next' ≡ next → IsItem workers next' e before → e.pid < length next'
    → n ≡ get_or next e.pid n → ps' ≡ ps ++ replicate (before + 1) e.pid
    → IsMerged starts workers next ps done rest
    → IsMerged starts workers (set next e.pid (n + 1)) ps' done' rest'
merged_step {starts} {workers} {next} {next'} {ps} {ps'} {done} {done'} {rest} {rest'} {e} {n} {before} rest-is done-is next-is item within n-is ps-is is =
    let below : e.pid < length next = subst (λ xs. e.pid < length xs) next-is within in
    let t = item.found.told in
    let at : slice_get item.worker.trace.calls.items (get_or next e.pid 0) ≡ Some t = subst (λ xs. slice_get item.worker.trace.calls.items (get_or xs e.pid 0) ≡ Some t) next-is item.found.here in
    let split : IsMerged starts workers next ps done (e ∷ rest') = subst (λ es. IsMerged starts workers next ps done es) rest-is is in
    let more = merged_more starts workers next ps done rest' e item.worker t split item.at below at item.found.call item.found.answer in
    let P : ℕ → List ℕ → List Entry → Type 0 = λ m qs es. IsMerged starts workers (set next e.pid (m + 1)) qs es rest' in
    let same : ps ++ replicate (t.before + 1) e.pid ≡ ps' = ap (λ j. ps ++ replicate (j + 1) e.pid) item.found.count ∙ sym ps-is in
    subst (λ m. P m ps' done') (sym (get_or_read next e.pid n below n-is 0))
    (subst (λ qs. P (get_or next e.pid 0) qs done') same
    (subst (λ es. P (get_or next e.pid 0) (ps ++ replicate (t.before + 1) e.pid) es) (sym done-is) more))

-- what the code finds is the entry's item
pub item_found : (workers : List WorkerResult) (next : List ℕ) (e : Entry) (w : WorkerResult) (calls : List TracedCall) (at n : ℕ)
    → calls ≡ (get_or workers e.pid w).trace.calls.items → e.pid < length workers → at ≡ get_or next e.pid 0
    → IsFound calls at e n → IsItem workers next e n
item_found workers next e w calls at n calls-is within at-is found = record {
  worker = get_or workers e.pid w;
  at = slice_get-get_or workers e.pid w within;
  found = subst (λ i. IsFound (get_or workers e.pid w).trace.calls.items i e n) at-is (subst (λ xs. IsFound xs at e n) calls-is found);
}

zeros_at : (n p : ℕ) → get_or {A = ℕ} (replicate n zero) p zero ≡ zero
zeros_at zero p = refl
zeros_at (suc n) zero = refl
zeros_at (suc n) (suc p) = zeros_at n p

pub zeros : (xs : List ℕ) (n : ℕ) → xs ≡ replicate n 0 → (p : ℕ) → get_or xs p 0 ≡ 0
zeros xs n is p = ap (λ ys. get_or ys p 0) is ∙ zeros_at n p

pub empty_steps : (s : List Block) → s ≡ [] → steps_of s ≡ []
unfolding steps_of
empty_steps s is = ap steps_of is

pub ok_then : {X Y : Type 0} (r : Result X Y) {P Q : X → Type 0} → IfOk r P → ((x : X) → P x → Q x) → IfOk r Q
ok_then x h f = search rules
