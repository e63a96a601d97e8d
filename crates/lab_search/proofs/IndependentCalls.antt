-- Processes that stand at calls that no other process can notice, and what a search holds.
use Rattle.std.proofs.Common.{ℕ, ◌≡◌, ◌≤◌, Bool, true, false, List, Some, length, refl, sym, ap, subst, ◌∙◌, slice_get, IsTrue}
use Rattle.std.specs.Option.{option_map}
use Rattle.std.proofs.lemmas.Option.{slice_get_past}
use Rattle.ipc_kernel.specs.Kernel.{KernelState}
use Rattle.ipc_kernel.specs.declared.call.Call.{Call}
use Rattle.ipc_kernel.specs.Operands.{are_named}
use Rattle.ipc_store.specs.declared.uses.ProcessUse.{ProcessUse}
use Rattle.ipc_store.specs.Uses.{is_own_by, IsWithin}
use Rattle.lab_sched.specs.declared.process.Process.{Process as Kept}
use Rattle.lab_sched.specs.Verdicts.{HasEnded, HasEndedIn}
use Rattle.lab_sched.specs.Worlds.{Process, Running, Waiting, Ended, WorldState, step_effect, step_effect_in}
use Rattle.lab_sched.specs.Held.{process_view}
use Rattle.lab_conditions.specs.Conditions.{StandsAt, call_of, call_next}
use Rattle.lab_worlds.specs.Calls.{Both}
use Rattle.lab_search.specs.declared.store.Store.{Store}
use Rattle.lab_states.specs.Rows.{Row}
use Rattle.lab_search.specs.Stored.{IsState, IsExactly, IsAt}
use Rattle.lab_worlds.specs.Independent.{IsIndependent, KeepsTo, IsCalm}
use Rattle.lab_search.proofs.FirstWorlds.{row_at}
use Rattle.lab_search.proofs.Growths.{state_kept}
use Rattle.lab_search.proofs.StepsOfRows.{process_at}
use Rattle.lab_worlds.proofs.OwnCalls.{standing_independent}
use Rattle.lab_worlds.proofs.EndedProcesses.{no_call}
use Rattle.lab_worlds.specs.Closed.{HasAdvance}
use Rattle.lab_search.specs.Reduced.{AreExpandedIn, IsSearchedIn}

-- the same of a process in a state over a kernel that are kept
pub independent_over : (uses : List ProcessUse) (t : Store) (w : WorldState) (p kernel state : ℕ) (s : Process) (c : Call) → (x : Kept) × (slice_get t.states.processes state ≡ Some x) × StandsAt (process_view x) c
    → ((k : KernelState) → slice_get t.kernels.kernels kernel ≡ Some k → is_own_by uses k p c ≡ true) → IsExactly t kernel w.kernel → slice_get w.processes p ≡ Some s → IsState t state s
    → are_named w.kernel.places ≡ true → IsIndependent uses w.kernel p (step_effect_in w p)
independent_over uses t w p kernel state s c stands own exactly at is named =
    let view : Some (process_view stands.0) ≡ Some s = sym (ap (option_map process_view) stands.1) ∙ is in
    let same : process_view stands.0 ≡ s = cc in
    subst (λ o. IsIndependent uses w.kernel p (step_effect w.kernel p o)) (sym at)
    (standing_independent uses w.kernel p s c (subst (λ x. StandsAt x c) same stands.2) named (own w.kernel exactly))

-- the same in the world of a row
pub independent_at : (uses : List ProcessUse) (t : Store) (w : WorldState) (at p kernel state : ℕ) → (r : Row) × (slice_get t.rows at ≡ Some r) × (r.kernel ≡ kernel) × (slice_get r.states p ≡ Some state)
    → ((s : Process) → IsExactly t kernel w.kernel → slice_get w.processes p ≡ Some s → IsState t state s → are_named w.kernel.places ≡ true → IsIndependent uses w.kernel p (step_effect_in w p)) → IsAt t at w
    → are_named w.kernel.places ≡ true → IsIndependent uses w.kernel p (step_effect_in w p)
independent_at uses t w at p kernel state placed independent here named =
    let is = row_at t at placed.0 w placed.1 here in
    let s = process_at t placed.0 w p state is placed.3 in
    independent s.0 (subst (λ k. IsExactly t k w.kernel) placed.2 is.kernel) s.1 s.2 named

-- what stands at a place stands at the same place
pub at_same : {A : Type 0} (xs : List A) (i j : ℕ) (x : A) → j ≡ i → slice_get xs i ≡ Some x → slice_get xs j ≡ Some x
at_same xs i j x e h = subst (λ n. slice_get xs n ≡ Some x) (sym e) h

-- a process that stands at a call is about to make it, and one that has ended makes none
call_standing : (s : Process) (c d : Call) → StandsAt s c → call_of s ≡ Some d → c ≡ d
call_standing (Running m) c d stands call = let there : Some c ≡ Some d = sym (ap call_next stands) ∙ call in cc
call_standing (Waiting m e) c d stands call = let there : Some e ≡ Some d = call in let is : e ≡ d = cc in sym stands ∙ is
call_standing (Ended e) c d stands call = absurd stands

-- what a process in a state over a kernel that are kept does next
pub keeps_standing : (uses : List ProcessUse) (t : Store) (w : WorldState) (p kernel state : ℕ) (c : Call) → (x : Kept) × (slice_get t.states.processes state ≡ Some x) × StandsAt (process_view x) c
    → ((k : KernelState) → slice_get t.kernels.kernels kernel ≡ Some k → IsWithin uses k p c) → IsExactly t kernel w.kernel → ((s : Process) → slice_get w.processes p ≡ Some s → IsState t state s)
    → KeepsTo uses w p
keeps_standing uses t w p kernel state c stands within exactly is s d at call =
    let view : Some (process_view stands.0) ≡ Some s = sym (ap (option_map process_view) stands.1) ∙ is s at in
    let same : process_view stands.0 ≡ s = cc in
    subst (IsWithin uses w.kernel p) (call_standing s c d (subst (λ x. StandsAt x c) same stands.2) call) (within w.kernel exactly)

-- one in a state that has ended
pub ended_state : (t : Store) (w : WorldState) (p state : ℕ) → ((x : Kept) → slice_get t.states.processes state ≡ Some x → HasEnded (process_view x))
    → ((s : Process) → slice_get w.processes p ≡ Some s → IsState t state s) → HasEndedIn w p
ended_state t w p state ended is s at = let kept = state_kept t state s (is s at) in subst HasEnded kept.2 (ended kept.0 kept.1)

pub keeps_ended : (uses : List ProcessUse) (t : Store) (w : WorldState) (p state : ℕ) → ((x : Kept) → slice_get t.states.processes state ≡ Some x → HasEnded (process_view x))
    → ((s : Process) → slice_get w.processes p ≡ Some s → IsState t state s) → KeepsTo uses w p
keeps_ended uses t w p state ended is s d at call = absurd (no_call s d (ended_state t w p state ended is s at) call)

-- a process of a row is in its state
pub row_states : (t : Store) (w : WorldState) (at p kernel state : ℕ) (states : List ℕ) → slice_get t.rows at ≡ Some (record { kernel = kernel; states = states }) → slice_get states p ≡ Some state → IsAt t at w
    → IsExactly t kernel w.kernel × ((s : Process) → slice_get w.processes p ≡ Some s → IsState t state s)
row_states t w at p kernel state states row here is =
    let r = row_at t at (record { kernel = kernel; states = states }) w row is in
    (r.kernel, λ s there. subst (λ o. Both (IsState t) o (Some s)) here (subst (λ o. Both (IsState t) (slice_get states p) o) there (r.states p)))

-- one behind the states isn't there
pub past_keeps : (uses : List ProcessUse) (t : Store) (w : WorldState) (at p kernel : ℕ) (states : List ℕ) → slice_get t.rows at ≡ Some (record { kernel = kernel; states = states }) → length states ≤ p → IsAt t at w
    → KeepsTo uses w p
past_keeps uses t w at p kernel states row past is s c there call =
    let r = row_at t at (record { kernel = kernel; states = states }) w row is in
    absurd (subst (λ o. Both (IsState t) o (Some s)) (slice_get_past states p past) (subst (λ o. Both (IsState t) (slice_get states p) o) there (r.states p)))

-- what a search holds whose rows were tried
pub searched_in : (reduced : Bool) (uses : List ProcessUse) (start : WorldState) (t : Store) → HasAdvance (IsAt t 0) start → AreExpandedIn reduced uses t
    → (IsTrue reduced → (i : ℕ) (w : WorldState) → IsAt t i w → IsCalm uses w) → IsSearchedIn reduced start t
searched_in false uses start t first expanded_in calm = record { begins = first; expanded = expanded_in }
searched_in true uses start t first expanded_in calm = record { uses = uses; begins = first; expanded_in = expanded_in; calm = calm refl }
