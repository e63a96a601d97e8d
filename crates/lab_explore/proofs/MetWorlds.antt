-- Worlds to which steps lead from the start, and the rows of a whole search that stand for their advances.
use Rattle.std.proofs.Common.{ℕ, ◌≡◌, true, List, [], Option, Some, None, arith, refl, sym, subst, ◌∙◌, slice_get, length, inl, inr}
use Rattle.lc3_machine.specs.Process.{Process as Machine}
use Rattle.ipc_kernel.specs.declared.call.Answer.TheVariants.{Done}
use Rattle.ipc_kernel.specs.Alike.{IsAlike, IsConsistent}
use Rattle.ipc_kernel.specs.Kernel.{empty_kernel}
use Rattle.ipc_kernel.specs.Operands.{are_named}
use Rattle.lab_sched.specs.declared.process.Process.{Process as Kept}
use Rattle.lab_sched.specs.Worlds.{Process, WorldState, StepEffect, local_step, kernel_step, step_effect_in, kernel_after, step, run, IsEffective}
use Rattle.lab_sched.specs.Starts.{AreStarts, initial_world}
use Rattle.lab_sched.proofs.ListPlaces.{get_past}
use Rattle.lab_states.specs.Rows.{Row}
use Rattle.lab_search.specs.declared.store.Store.{Store}
use Rattle.lab_search.specs.Stored.{IsState, IsRow, IsAt, HasEdge, AreExpanded, IsSearched}
use Rattle.lab_states.specs.declared.edges.Edge.{Edge}
use Rattle.lab_states.specs.Depths.{AreDepths}
use Rattle.lab_search.proofs.FirstWorlds.{at_unique, AreAtDepth, all_levels}
use Rattle.lab_worlds.specs.Calls.{Both, IsAdvance}
use Rattle.lab_worlds.specs.Unwaiting.{GoesOn, unwaiting, AskAgain}
use Rattle.lab_worlds.proofs.AfterLocalSteps.{same_some}
use Rattle.lab_worlds.proofs.AlikeWorlds.{consistent_run}
use Rattle.lab_worlds.proofs.Beginnings.{starts_unwaiting, starts_ask, fresh_consistent, fresh_named}
use Rattle.lab_worlds.proofs.HeldAdvances.{stays_or_steps, asks_run, reaches_world}
use Rattle.lab_worlds.proofs.UnwaitingWorlds.{effect_at, same_step}

-- a laboratory before its first step
pub record IsStart (w : WorldState) : Type 0 where
  pub consistent : IsConsistent w.kernel
  pub named : are_named w.kernel.places ≡ true
  pub asks : AskAgain w
  pub same : unwaiting w ≡ w

pub is_start : (ps : List Kept) → AreStarts ps → IsStart (initial_world ps)
is_start ps starts = record {
  consistent = fresh_consistent (initial_world ps) (length ps) refl;
  named = fresh_named (initial_world ps) (length ps) refl;
  asks = starts_ask ps ps (empty_kernel (length ps)) refl starts;
  same = starts_unwaiting ps ps (empty_kernel (length ps)) refl starts;
}

-- the row of a world
pub row_at : (t : Store) (i : ℕ) (r : Row) (w : WorldState) → slice_get t.rows i ≡ Some r → IsAt t i w → IsRow t r w
row_at t i r w there here = subst (λ x. IsRow t x w) (same_some here.0 r (slice_get t.rows i) here.1 there) here.2

-- the state of a process of the world
pub state_at : (t : Store) (i p : ℕ) (r : Row) (w : WorldState) (s : Process) → slice_get t.rows i ≡ Some r → IsAt t i w → slice_get w.processes p ≡ Some s → Both (IsState t) (slice_get r.states p) (Some s)
state_at t i p r w s there here at = subst (λ o. Both (IsState t) (slice_get r.states p) o) at ((row_at t i r w there here).states p)

-- a step by which a process goes on from there has an edge
pub edge_from : (t : Store) (i p : ℕ) (w : WorldState) → AreExpanded t → IsAt t i w → GoesOn (step_effect_in w p) → HasEdge t i w p
edge_from t i p w expanded here goes =
    let done = expanded i (get_past t.rows i here.0 here.1) in
    let is : w ≡ done.0 = at_unique t i w done.0 here done.1 in
    subst (λ v. HasEdge t i v p) (sym is) (done.2 p (subst (λ v. GoesOn (step_effect_in v p)) is goes))

-- the rows have no depth where none is told
no_depths : (es : List Edge) → AreDepths [] es
no_depths es = record { first = refl; near = λ k d below. omega arith }

-- a world whose advance is that of a row
pub record IsMet (t : Store) (w : WorldState) : Type 0 where
  pub consistent : IsConsistent w.kernel
  pub asks : AskAgain w
  pub row : ℕ
  pub world : WorldState
  pub there : IsAt t row world
  pub advance : IsAdvance (unwaiting w) world

pub met : (t : Store) (start : WorldState) → IsStart start → IsSearched start t → (ps : List ℕ) → IsMet t (run start ps)
met t start is searched ps =
    let held = reaches_world start (AreAtDepth t []) is.consistent is.asks (all_levels t start [] is.same searched (no_depths t.edges)) ps in
    record { consistent = consistent_run ps start is.consistent; asks = asks_run ps start is.asks; row = held.1.1.0; world = held.1.0; there = held.1.1.1; advance = held.1.2 }

-- a step that goes on is effective
pub goes_effective : (t : StepEffect) → GoesOn t → IsEffective t
goes_effective (local_step n) h = tt
goes_effective (kernel_step m c (Done r)) h = tt
goes_effective _ h = absurd h

-- a process that has an effective step
pub stepper : (w : WorldState) (p : ℕ) → IsEffective (step_effect_in w p) → (s : Process) × (slice_get w.processes p ≡ Some s)
stepper w p effective = by (slice_get w.processes p) refl
  where
    by : (o : Option Process) → slice_get w.processes p ≡ o → (s : Process) × (slice_get w.processes p ≡ Some s)
    by None none = absurd (subst IsEffective (effect_at w p None none) effective)
    by (Some s) at = (s, at)

-- a call by which a process goes on is made in the world of the row, too
pub call_met : (t : Store) (w : WorldState) (p : ℕ) (m : IsMet t w) → GoesOn (step_effect_in w p) → ((q : Machine) → step_effect_in w p ≡ local_step q → ⊥)
    → (s : Process) × (slice_get m.world.processes p ≡ Some s) × (step_effect_in m.world p ≡ step_effect_in w p)
    × ((u : WorldState) → IsAdvance (step m.world p) u → IsAlike (step w p).kernel u.kernel)
call_met t w p m goes call = elim (stays_or_steps (unwaiting w) m.world p m.consistent m.advance (subst GoesOn (sym same) goes)) [
  | inl local ↦ absurd (call local.0 (sym same ∙ local.1))
  | inr made ↦
      let here = made.1 ∙ same in
      let s = stepper m.world p (goes_effective (step_effect_in m.world p) (subst GoesOn (sym here) goes)) in
      (s.0, s.1, here, λ u next. subst (λ e. IsAlike (kernel_after w.kernel p e) u.kernel) same (made.2 u next).kernel)
]
  where
    same : step_effect_in (unwaiting w) p ≡ step_effect_in w p
    same = same_step w p m.asks goes
