-- The state after the step of an edge.
use Rattle.std.proofs.Common.{ℕ, ◌≡◌, Some, sym, ap, subst, ◌∙◌, slice_get}
use Rattle.std.specs.Option.{option_map}
use Rattle.ipc_kernel.specs.declared.call.Call.{Call}
use Rattle.ipc_kernel.specs.declared.call.Answer.{Answer}
use Rattle.ipc_kernel.specs.Answer.{answer}
use Rattle.ipc_kernel.specs.Kernel.{KernelState}
use Rattle.lab_sched.specs.declared.process.Process.{Process as Kept}
use Rattle.lab_sched.specs.Worlds.{WorldState, step_effect}
use Rattle.lab_sched.specs.Held.{process_view}
use Rattle.lab_conditions.specs.Conditions.{StandsAt}
use Rattle.lab_worlds.proofs.AfterLocalSteps.{same_some}
use Rattle.lab_states.specs.Rows.{Row}
use Rattle.lab_search.specs.declared.store.Store.{Store}
use Rattle.lab_search.specs.Stored.{IsAt, IsExactly}
use Rattle.lab_search.proofs.StepsOfRows.{process_at}
use Rattle.lab_ways.specs.declared.wanted.Wanted.{Wanted}
use Rattle.lab_ways.specs.Wanted.{next_answered, next_state, next_in}
use Rattle.lab_explore.proofs.MetWorlds.{row_at}
use Rattle.lab_ways.proofs.NextStates.{standing}

-- the kernel and the state of a process of a row
abbrev pub IsPlaced : Store → ℕ → ℕ → ℕ → ℕ → Type 0
IsPlaced t at pid kernel state = (r : Row) × (slice_get t.rows at ≡ Some r) × (r.kernel ≡ kernel) × (slice_get r.states pid ≡ Some state)

-- the call at which a state stands
abbrev pub StandsThere : Store → ℕ → Call → Type 0
StandsThere t state c = (s : Kept) × (slice_get t.states.processes state ≡ Some s) × StandsAt (process_view s) c

-- the step of a process that stands at a call in the world of a row
stands_at : (x : Wanted) (n : ℕ) (t : Store) (at pid kernel state : ℕ) (c : Call) (w : WorldState) → IsPlaced t at pid kernel state → StandsThere t state c → IsAt t at w
    → next_in x n w pid ≡ next_answered x n w.kernel pid c (answer w.kernel pid c).0
stands_at x n t at pid kernel state c w place stands here =
    let s = process_at t place.0 w pid state (row_at t at place.0 w place.1 here) place.3 in
    let same : process_view stands.0 ≡ s.0 = same_some (process_view stands.0) s.0 (option_map process_view (slice_get t.states.processes state)) (ap (option_map process_view) stands.1) s.2 in
    ap (λ o. next_state x n w.kernel pid (step_effect w.kernel pid o)) s.1 ∙ standing x n w.kernel pid s.0 c (subst (λ u. StandsAt u c) same stands.2)

-- it is judged by the kernel of the row
pub judged_over : (x : Wanted) (n : ℕ) (t : Store) (at pid kernel state : ℕ) (c : Call) (k : KernelState) (m : ℕ) → IsPlaced t at pid kernel state → StandsThere t state c → IsExactly t kernel k
    → m ≡ next_answered x n k pid c (answer k pid c).0 → (w : WorldState) → IsAt t at w → next_in x n w pid ≡ m
judged_over x n t at pid kernel state c k m place stands exactly is w here =
    let row = row_at t at place.0 w place.1 here in
    let there : IsExactly t kernel w.kernel = subst (λ i. IsExactly t i w.kernel) place.2 row.kernel in
    let same : w.kernel ≡ k = same_some w.kernel k (slice_get t.kernels.kernels kernel) there exactly in
    stands_at x n t at pid kernel state c w place stands here ∙ ap (λ j. next_answered x n j pid c (answer j pid c).0) same ∙ sym is

-- or not at all, where the call isn't read
pub unjudged : (x : Wanted) (n : ℕ) (t : Store) (at pid kernel state : ℕ) (c : Call) → IsPlaced t at pid kernel state → StandsThere t state c
    → ((s : ℕ) (k : KernelState) (a : Answer) → next_answered x s k pid c a ≡ s) → (w : WorldState) → IsAt t at w → next_in x n w pid ≡ n
unjudged x n t at pid kernel state c place stands unread w here =
    stands_at x n t at pid kernel state c w place stands here ∙ unread n w.kernel (answer w.kernel pid c).0
