-- The report: the merged steps, and then those of the settling.
use Rattle.std.proofs.Common.{ℕ, ◌+◌, ◌≡◌, ◌<◌, ◌++◌, List, [], ◌∷◌, Some, refl, sym, ap, subst, ◌∙◌, arith, length, slice_get, get_or, map, ◌⊎◌, All, rules}
use Rattle.std.specs.Option.{option_map}
use Rattle.std.proofs.lemmas.List.{length-map}
use Rattle.std.proofs.lemmas.List.Elements.{All-map}
use Rattle.std.proofs.lemmas.Option.{slice_get-map, slice_get-get_or, slice_get_within, get_or_from_slice_get}
use Rattle.ipc_kernel.specs.Kernel.{KernelState, empty_kernel}
use Rattle.lab_sched.specs.Worlds.{HasProfile, first_profile, HaveOneProfile, Process, WorldState}
use Rattle.lab_sched.specs.Execution.{count, IsExecution}
use Rattle.lab_sched.specs.LocalRun.{steps}
use Rattle.lab_sched.specs.History.{IsLegal, replay}
use Rattle.lab_sched.specs.Held.{process_view, IsHeld}
use Rattle.lab_sched.specs.Settled.{report, IsSettled, HasStopped, HaveStopped}
use Rattle.lab_sched.specs.Starts.{Runs}
use Rattle.lab_sched.specs.Finished.{IsAtRest, IsFinished}
use Rattle.lab_sched.specs.declared.stepped.Entry.{Entry}
use Rattle.lab_sched.specs.declared.process.Process.{Process as ProcessValue}
use Rattle.lab_sched.proofs.Executions.{count-append, execution_append}
use Rattle.lab_sched.proofs.ReportAdditions.{added_length}
use Rattle.lab_sched.proofs.Profiles.{alone_profile, one_of}
use Rattle.lab_sched.proofs.WorldLemmas.{runs_held}
use Rattle.lab_threads.specs.declared.spawning.WorkerResult.{WorkerResult}
use Rattle.lab_threads.specs.Private.WorkerResults.{AreWorkerResults}
use Rattle.lab_threads.specs.Private.Merged.{final_world, LeadToEnds, LeadToResults}
use Rattle.lab_threads.proofs.Merges.{some_at}

map-map_seen : (workers : List WorkerResult) → map process_view (map (λ k. k.process) workers) ≡ map (λ k. process_view k.process) workers
map-map_seen [] = refl
map-map_seen (k ∷ ks) = ap (λ xs. process_view k.process ∷ xs) (map-map_seen ks)

pub joined_is : (w : WorldState) (ps : List ProcessValue) (k : KernelState) (n : ℕ) (workers : List WorkerResult) (history : List Entry)
    → w.processes ≡ map process_view ps → ps ≡ map (λ v. v.process) workers → w.kernel ≡ k → k ≡ replay (empty_kernel n) history → w ≡ final_world n workers history
joined_is w ps k n workers history ps-is ends-is k-is kernel-is = search (rules, map-map_seen)

-- settling goes on with an execution
pub settled_execution : (b w v : WorldState) (ss ss' left rest : List ℕ) (h h' : List Entry) → IsExecution b ss w h
    → IsSettled (report w ss h) (report v ss' h') left rest → IsExecution b ss' v h'
settled_execution b w v ss ss' left rest h h' execution settled =
    let added = settled.added in
    let both = execution_append execution added.execution in
    subst (λ es. IsExecution b ss' v es) (sym added.entries) (subst (λ ps. IsExecution b ps v (h ++ added.told)) (sym added.steps) both)

rested : (v : WorldState) (p : ℕ) (s : Process) (ss' rest : List ℕ) (refused limit : ℕ) → slice_get v.processes p ≡ Some s → refused ≡ 0
    → count p ss' + get_or rest p 0 ≡ limit → HasStopped v rest refused p → IsAtRest v.kernel p s ⊎ (count p ss' ≡ limit)
rested v p s x rest refused limit at none counts y = search rules

-- and where the steps so far and those left make the limit, it finishes
pub settled_finished : (w v : WorldState) (ss ss' left rest : List ℕ) (h h' : List Entry) (limit refused : ℕ)
    → length left ≡ length w.processes → ((p : ℕ) → p < length left → count p ss + get_or left p 0 ≡ limit)
    → IsSettled (report w ss h) (report v ss' h') left rest → refused ≡ 0
    → HaveStopped v rest refused → IsFinished v ss' limit
settled_finished w v ss ss' left rest h h' limit refused len counted settled none stopped p s at =
    let lengths : length v.processes ≡ length w.processes = added_length settled.added in
    let below : p < length left = omega (arith, len, lengths, slice_get_within v.processes p s at) in
    let taken = settled.counted p below in
    let all : count p ss' ≡ count p ss + count p settled.taken = ap (λ ps. count p ps) settled.added.steps ∙ count-append p ss settled.taken in
    let counts : count p ss' + get_or rest p 0 ≡ limit = omega (arith, all, taken, counted p below) in
    (omega (arith, counts), rested v p s ss' rest refused limit at none counts (stopped p (omega (arith, below, settled.len))))

-- the steps of each trace and those that are left make the limit
pub worker_steps : (ss left : List ℕ) (starts : List ProcessValue) (workers : List WorkerResult) (limit : ℕ) → AreWorkerResults limit starts workers
    → ((p : ℕ) (k : WorkerResult) → slice_get workers p ≡ Some k → count p ss ≡ steps k.trace) → left ≡ map (λ k. k.left) workers
    → (p : ℕ) → p < length left → count p ss + get_or left p 0 ≡ limit
worker_steps ss left starts workers limit are counted left-is p within =
    let lefts : length left ≡ length workers = ap length left-is ∙ length-map workers (λ k. k.left) in
    let below : p < length workers = subst (λ n. p < n) lefts within in
    let k = some_at workers p below in
    let start = some_at starts p (subst (λ n. p < n) are.len below) in
    let worker = are.each p start.0 k.0 start.1 k.1 in
    let mine : get_or left p 0 ≡ k.0.left =
    get_or_from_slice_get left p k.0.left 0 (ap (λ xs. slice_get xs p) left-is ∙ slice_get-map (λ k. k.left) workers p ∙ ap (λ o. option_map (λ k. k.left) o) k.1) in
    omega (arith, mine, counted p k.0 k.1, worker.within)

-- what merging says, of the lists that its slices show
pub merged_from : {ss : List ℕ} {workers workers' : List WorkerResult} {h h' : List Entry} {n limit : ℕ} (starts : List ProcessValue) → LeadToResults workers' h' ss → workers' ≡ workers → h' ≡ h
    → AreWorkerResults limit starts workers → n ≡ length starts → IsLegal (empty_kernel n) h → LeadToEnds starts workers h ss
merged_from {ss} {workers} {workers'} {h} {h'} {n} {limit} starts all workers-is h-is are count legal =
    let shown : LeadToResults workers h ss = subst (λ v. LeadToResults v h ss) workers-is (subst (λ e. LeadToResults workers' e ss) h-is all) in
    shown starts limit are (subst (λ m. IsLegal (empty_kernel m) h) count legal)

-- where the workers of running processes stopped is ready for replies
pub workers_held : (limit : ℕ) (starts : List ProcessValue) (workers : List WorkerResult) → AreWorkerResults limit starts workers → All Runs starts → All IsHeld (map (λ k. k.process) workers)
workers_held limit starts workers are runs =
    All-map IsHeld (λ (k : WorkerResult). k.process) workers
    (λ p d below.
    let within : p < length starts = subst (λ n. p < n) are.len below in
    let start = some_at starts p within in
    let is : get_or starts p start.0 ≡ start.0 = get_or_from_slice_get starts p start.0 start.0 start.1 in
    (are.each p start.0 (get_or workers p d) start.1 (slice_get-get_or workers p d below)).held (runs_held start.0 (subst Runs is (runs p start.0 within))))

-- where the results of workers of one profile end have it
pub workers_profile : (limit : ℕ) (starts : List ProcessValue) (workers : List WorkerResult) → AreWorkerResults limit starts workers → HaveOneProfile (map process_view starts)
    → HaveOneProfile (map process_view (map (λ k. k.process) workers))
workers_profile limit starts workers are have =
    one_of (first_profile (map process_view starts)) (map process_view (map (λ k. k.process) workers))
    (All-map (HasProfile (first_profile (map process_view starts))) process_view (map (λ k. k.process) workers)
    (All-map (λ s. HasProfile (first_profile (map process_view starts)) (process_view s)) (λ (k : WorkerResult). k.process) workers
    (λ p d below.
    let within : p < length starts = subst (λ n. p < n) are.len below in
    let start = some_at starts p within in
    let here : get_or (map process_view starts) p (process_view start.0) ≡ process_view start.0 =
    get_or_from_slice_get (map process_view starts) p (process_view start.0) (process_view start.0) (slice_get-map process_view starts p ∙ ap (λ o. option_map process_view o) start.1) in
    let was = subst (HasProfile (first_profile (map process_view starts))) here (have p (process_view start.0) (omega (arith, within, length-map starts process_view))) in
    let worker = get_or workers p d in
    alone_profile (process_view start.0) worker.trace (process_view worker.process) (are.each p start.0 worker start.1 (slice_get-get_or workers p d below)).alone ∙ was)))
