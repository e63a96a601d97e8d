-- What loses a message after any steps loses one along an edge.
use Rattle.std.proofs.Common.{ℕ, ◌≡◌, ◌<◌, Some, sym, ap, subst, ◌∙◌, slice_get, inl, inr, arith}
use Rattle.ipc_kernel.specs.Answer.{is_receive}
use Rattle.lab_sched.specs.Worlds.{Process, Running, Waiting, WorldState, StepEffect, nothing, step_effect_in, kernel_after, step, run}
use Rattle.lab_conditions.specs.Conditions.{option_any, call_next}
use Rattle.lab_conditions.specs.declared.never.Never.TheVariants as never
use Rattle.lab_conditions.specs.Losses.{messages, is_receiving, receives, Loses}
use Rattle.lab_conditions.proofs.MessageCounts.{messages_alike}
use Rattle.lab_search.specs.declared.store.Store.{Store}
use Rattle.lab_worlds.specs.Unwaiting.{GoesOn}
use Rattle.lab_worlds.specs.Reached.{NeverBreaks}
use Rattle.lab_search.specs.Stored.{IsAt, IsSearched}
use Rattle.lab_explore.specs.Private.Judged.{IsLoss, NoEdgeLoses}
use Rattle.lab_worlds.proofs.Pushes.{all_at}
use Rattle.lab_worlds.proofs.AfterLocalSteps.{same_some}
use Rattle.lab_worlds.proofs.UnwaitingWorlds.{tells, still_unwaiting, StepOf, step_of, still, by_itself, by_call, by_answer}
use Rattle.lab_search.proofs.FirstWorlds.{reached_advance}
use Rattle.lab_explore.proofs.MetWorlds.{IsStart, edge_from, met, call_met}

-- a step of this kind leaves fewer messages
abbrev Fewer : WorldState → ℕ → StepEffect → Type 0
Fewer w p t = messages (kernel_after w.kernel p t) < messages w.kernel

none_fewer : (w : WorldState) (p : ℕ) → Fewer w p nothing → ⊥
none_fewer w p h = omega (arith, h)

-- such a step goes on
loss_goes : (w : WorldState) (p : ℕ) → Loses w p → GoesOn (step_effect_in w p)
loss_goes w p h = elim (tells (step_effect_in w p)) [
  | inl goes ↦ goes
  | inr none ↦
      let same : messages (step w p).kernel ≡ messages w.kernel = ap (λ (u : WorldState). messages u.kernel) (still_unwaiting w p none) in
      let fewer : messages (step w p).kernel < messages w.kernel = h.fewer in
      absurd (omega (arith, same, fewer))
]

-- a process whose step receives no message isn't about to receive one
receives_here : (w : WorldState) (p : ℕ) (s : Process) → slice_get w.processes p ≡ Some s → GoesOn (step_effect_in w p) → receives (step_effect_in w p) ≡ is_receiving s
receives_here w p s at goes = by (step_of w p)
  where
    there : (u : Process) → slice_get w.processes p ≡ Some u → is_receiving u ≡ is_receiving s
    there u now = ap is_receiving (same_some u s (slice_get w.processes p) now at)

    by : StepOf w p → receives (step_effect_in w p) ≡ is_receiving s
    by (still e) = absurd (subst GoesOn e goes)
    by (by_itself m q now acts e) = ap receives e ∙ sym (ap (λ a. option_any is_receive (call_next a)) acts) ∙ there (Running m) now
    by (by_call m c a now asks told e) = ap receives e ∙ sym (ap (λ a. option_any is_receive (call_next a)) asks) ∙ there (Running m) now
    by (by_answer m c r now told e) = ap receives e ∙ there (Waiting m c) now

-- where no edge of a whole search loses a message, no step does
pub never_loses : (start : WorldState) (t : Store) → IsStart start → IsSearched start t → NoEdgeLoses t → NeverBreaks start never.Lost
never_loses start t is searched none ps p h =
    let w = run start ps in
    let m = met t start is searched ps in
    let v = m.world in
    let call = call_met t w p m (loss_goes w p h) (λ q local. none_fewer w p (subst (Fewer w p) local h.fewer)) in
    let goes = subst GoesOn (sym call.2) (loss_goes w p h) in
    let edge = edge_from t m.row p v searched.expanded m.there goes in
    let before = messages_alike w.kernel v.kernel m.advance.kernel in
    let after = messages_alike (step w p).kernel edge.2.kernel (call.3 edge.2 (reached_advance (step v p) edge.2 edge.6)) in
    let fewer = h.fewer in
    all_at (λ e. IsLoss t e → ⊥) t.edges edge.0 edge.1 none edge.3 (record {
      before = v;
      after = edge.2;
      process = call.0;
      from = subst (λ n. IsAt t n v) (sym edge.4) m.there;
      to = edge.5;
      there = subst (λ n. slice_get v.processes n ≡ Some call.0) (sym edge.7) call.1;
      receives_none = sym (receives_here v p call.0 call.1 goes) ∙ ap receives call.2 ∙ h.receives_none;
      fewer = omega (arith, before, after, fewer);
    })
