-- Where pairs of rows and states are marked so, what is asked is so on every way.
use Rattle.std.proofs.Common.{ℕ, ◌≡◌, ◌<◌, inl, inr, List, [], ◌∷◌, Option, Some, None, refl, sym, ap, subst, ◌∙◌, slice_get}
use Rattle.lc3_machine.specs.Process.{Process as Machine}
use Rattle.ipc_kernel.specs.Alike.{IsConsistent}
use Rattle.lab_sched.specs.Worlds.{Process, Running, Waiting, Ended, WorldState, NextAction, moves, calls, next_action, step_effect_in, step, run}
use Rattle.lab_sched.proofs.Executions.{effect_local}
use Rattle.lab_worlds.specs.Calls.{IsAhead, Both, IsAdvance}
use Rattle.lab_worlds.specs.Unwaiting.{GoesOn, unwaiting, AskAgain}
use Rattle.lab_worlds.specs.Closed.{HasAdvance}
use Rattle.lab_worlds.proofs.AlikeWorlds.{consistent_after, consistent_run}
use Rattle.lab_worlds.proofs.AfterLocalSteps.{stays, same_some}
use Rattle.lab_worlds.proofs.HeldAdvances.{same_in_advance, stays_or_steps, asks_run}
use Rattle.lab_worlds.proofs.UnwaitingWorlds.{effect_at, tells, same_step, none_goes, still_unwaiting, goes_unwaiting, asks_on}
use Rattle.lab_states.specs.declared.edges.Edge.{Edge}
use Rattle.lab_search.specs.declared.store.Store.{Store}
use Rattle.lab_search.specs.Stored.{IsAt, IsSearched}
use Rattle.lab_search.proofs.FirstWorlds.{reached_advance}
use Rattle.lab_ways.specs.declared.wanted.Wanted.{Wanted}
use Rattle.lab_ways.specs.declared.marking.Marks.{Marks}
use Rattle.lab_ways.specs.Wanted.{next_state, next_in}
use Rattle.lab_ways.specs.Ways.{state_from, state_after, IsEveryWay}
use Rattle.lab_ways.specs.Private.Marked.{IsMarked, KeepsMarks, KeepsMarksAt, AreShown}
use Rattle.lab_explore.proofs.MetWorlds.{IsStart, edge_from}
use Rattle.lab_ways.proofs.NextStates.{next_alike, no_step}

-- a process that doesn't go on doesn't in the advance, either
still_ahead : (w v : WorldState) (p : ℕ) → IsConsistent w.kernel → IsAdvance w v → (GoesOn (step_effect_in w p) → ⊥) → GoesOn (step_effect_in v p) → ⊥
still_ahead w v p consistent h none goes = by (slice_get w.processes p) (slice_get v.processes p) refl refl (h.processes p)
  where
    at_call : (s : Process) → slice_get w.processes p ≡ Some s → slice_get v.processes p ≡ Some s → ⊥
    at_call s a b = none (subst GoesOn (same_in_advance w v p s consistent h a b) goes)

    running : (m : Machine) (u : Process) (a : NextAction) → next_action m ≡ a → slice_get w.processes p ≡ Some (Running m) → slice_get v.processes p ≡ Some u → IsAhead (Running m) u → ⊥
    running m u (moves q) e a b i = none (subst GoesOn (sym (effect_local w p m q a e)) tt)
    running m u (calls c) e a b i = at_call (Running m) a (b ∙ ap (λ x. Some x) (stays (Running m) u (c, e) i))

    by : (a b : Option Process) → slice_get w.processes p ≡ a → slice_get v.processes p ≡ b → Both IsAhead a b → ⊥
    by None None a b i = subst GoesOn (effect_at v p None b) goes
    by None (Some u) a b i = absurd i
    by (Some s) None a b i = absurd i
    by (Some (Running m)) (Some u) a b i = running m u (next_action m) refl a b i
    by (Some (Waiting m c)) (Some u) a b i = at_call (Waiting m c) a (b ∙ ap (λ x. Some x) (stays (Waiting m c) u tt i))
    by (Some (Ended e)) (Some u) a b i = at_call (Ended e) a (b ∙ ap (λ x. Some x) (stays (Ended e) u tt i))

-- the worlds of rows that are marked with a state
abbrev IsMarkedRow : Store → Marks → ℕ → WorldState → Type 0
IsMarkedRow t m s v = (i : ℕ) × IsAt t i v × IsMarked m i s × (s < m.states)

-- a step leads to the advance of a row that is marked with the state after it
marked_on : (x : Wanted) (start : WorldState) (t : Store) (m : Marks) (s : ℕ) → IsSearched start t → AreShown x t m → (w : WorldState) (p : ℕ) → IsConsistent w.kernel → GoesOn (step_effect_in w p)
    → HasAdvance (IsMarkedRow t m s) w → HasAdvance (IsMarkedRow t m (next_in x s w p)) (step w p)
marked_on x start t m s searched shown w p consistent goes has =
    let v = has.0 in
    let i = has.1.0 in
    elim (stays_or_steps w v p consistent has.2 goes) [
      | inl still ↦ (v, subst (λ n. IsMarkedRow t m n v) (sym (ap (next_state x s w.kernel p) still.1)) has.1, still.2)
      | inr moved ↦
          let edge = edge_from t i p v searched.expanded has.1.1 (subst GoesOn (sym moved.1) goes) in
          let at : IsAt t edge.1.from v = subst (λ n. IsAt t n v) (sym edge.4) has.1.1 in
          let kept = shown.edges edge.0 edge.1 edge.3 s has.1.3 (subst (λ n. IsMarked m n s) (sym edge.4) has.1.2) v at in
          let same : next_in x s v p ≡ next_in x s w p = ap (next_state x s v.kernel p) moved.1 ∙ next_alike x s w.kernel v.kernel p (step_effect_in w p) has.2.kernel in
          let by : next_in x s v edge.1.pid ≡ next_in x s w p = ap (λ q. next_in x s v q) edge.7 ∙ same in (
            edge.2,
            subst (λ n. IsMarkedRow t m n edge.2) by (edge.1.to, edge.5, kept.1, kept.0),
            moved.2 edge.2 (reached_advance (step v p) edge.2 edge.6),
          )
    ]

-- so do steps, but for who waits
marked_run : (x : Wanted) (start : WorldState) (t : Store) (m : Marks) → IsSearched start t → AreShown x t m → (ps : List ℕ) (s : ℕ) (w : WorldState) → IsConsistent w.kernel → AskAgain w
    → HasAdvance (IsMarkedRow t m s) (unwaiting w) → HasAdvance (IsMarkedRow t m (state_from x s w ps)) (unwaiting (run w ps))
unfolding run state_from
marked_run x start t m searched shown [] s w consistent asks has = has
marked_run x start t m searched shown (p ∷ ps) s w consistent asks has =
    let next : HasAdvance (IsMarkedRow t m (next_in x s w p)) (unwaiting (step w p)) = elim (tells (step_effect_in w p)) [
      | inl goes ↦
          let same = same_step w p asks goes in
          subst (λ n. HasAdvance (IsMarkedRow t m n) (unwaiting (step w p))) (ap (next_state x s w.kernel p) same)
          (subst (HasAdvance (IsMarkedRow t m (next_in x s (unwaiting w) p))) (sym (goes_unwaiting w p asks goes))
          (marked_on x start t m s searched shown (unwaiting w) p consistent (subst GoesOn (sym same) goes) has))
      | inr none ↦
          subst (λ n. HasAdvance (IsMarkedRow t m n) (unwaiting (step w p))) (sym (no_step x s w.kernel p (step_effect_in w p) none))
          (subst (HasAdvance (IsMarkedRow t m s)) (sym (still_unwaiting w p none)) has)
    ] in
    marked_run x start t m searched shown ps (next_in x s w p) (step w p) (consistent_after w p (step_effect_in w p) consistent) (asks_on w p asks) next

-- the marks of an edge, by what is known of it
pub marks_kept : (x : Wanted) (t : Store) (m : Marks) (k : ℕ) (e : Edge) → slice_get t.edges k ≡ Some e → KeepsMarks x t m e → KeepsMarksAt x t m k
marks_kept x t m k e there keeps f read = subst (KeepsMarks x t m) (same_some e f (slice_get t.edges k) there read) keeps

-- so what is asked is so on every way
pub every_way : (x : Wanted) (start : WorldState) (t : Store) (m : Marks) → IsStart start → IsSearched start t → AreShown x t m → IsEveryWay x start
every_way x start t m is searched shown ps =
    let w = run start ps in
    let begins = searched.begins in
    let has = marked_run x start t m searched shown ps 0 start is.consistent is.asks
    (subst (HasAdvance (IsMarkedRow t m 0)) (sym is.same) (begins.0, (0, begins.1, shown.first, shown.some), begins.2)) in
    let right = shown.rows has.1.0 (state_after x start ps) has.1.3 has.1.2 has.0 has.1.1 in
    (right.0, λ rests. right.1 (λ p. still_ahead (unwaiting w) has.0 p (consistent_run ps start is.consistent) has.2 (none_goes w p (asks_run ps start is.asks) (rests p))))
