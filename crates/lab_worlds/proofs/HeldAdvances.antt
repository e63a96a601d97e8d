-- Whatever steps are taken, the list has the advance of the world that they lead to, but for who waits.
use Rattle.std.proofs.Common.{ℕ, ◌+◌, ◌≤◌, ◌≡◌, arith, length, List, [], ◌∷◌, Option, Some, None, refl, sym, ap, subst, ◌∙◌, slice_get, inl, inr, ◌⊎◌, Contains, rules}
use Rattle.std.proofs.lemmas.List.{length-append}
use Rattle.lc3_machine.specs.Process.{Process as Machine}
use Rattle.ipc_kernel.specs.declared.call.Answer.TheVariants.{Wait}
use Rattle.ipc_kernel.specs.Answer.{answer}
use Rattle.ipc_kernel.specs.Alike.{IsConsistent}
use Rattle.ipc_store.proofs.Alikes.{alike_then}
use Rattle.lab_sched.specs.Worlds.{Process, Running, Waiting, WorldState, moves, next_action, StepEffect, nothing, local_step, kernel_step, step_effect, step_effect_in, process_after_answer, after, step, run, IsEffective, entry_of, entries}
use Rattle.lab_sched.specs.Finished.{IsAtRest}
use Rattle.lab_sched.specs.Stepping.{before_wait}
use Rattle.lab_sched.proofs.ListPlaces.{get-set_same, get_past}
use Rattle.lab_sched.proofs.Commutes.{after_other}
use Rattle.lab_worlds.specs.Calls.{AreAlike, IsAtCall, IsAhead, Both, IsAdvance}
use Rattle.lab_worlds.specs.Unwaiting.{GoesOn, NoneGoesOn, unwaiting, AsksAgain, AskAgain}
use Rattle.lab_worlds.specs.Closed.{HasAdvance, AreAtRest, HoldsEveryEnd}
use Rattle.lab_worlds.proofs.AlikeWorlds.{effect_alike, kernel_alike, same_effect, consistent_after, consistent_run}
use Rattle.lab_worlds.proofs.AfterLocalSteps.{stays, ahead_moves, ahead_of_ahead, same_by_gets}
use Rattle.lab_worlds.specs.Walked.{waiting}
use Rattle.lab_worlds.proofs.FewestCalls.{calls_in, waiting_goes, waiting_still}
use Rattle.lab_worlds.proofs.UnwaitingWorlds.{tells, same_step, none_goes, unwaiting_at, still_unwaiting, goes_unwaiting, asks_on, StepOf, step_of, still, by_itself, by_call, by_answer}
use Rattle.lab_worlds.proofs.Pushes.{at_or_other}

-- a step of the same kind leaves a process in the same state, whatever the rest of the world
pub same_after : (w v : WorldState) (p : ℕ) (s : Process) (t : StepEffect) → slice_get w.processes p ≡ Some s → slice_get v.processes p ≡ Some s
    → slice_get (after w p t).processes p ≡ slice_get (after v p t).processes p
same_after w v p s nothing a b = a ∙ sym b
same_after w v p s (local_step n) a b = get-set_same w.processes p (Running n) (get_past w.processes p s a) ∙ sym (get-set_same v.processes p (Running n) (get_past v.processes p s b))
same_after w v p s (kernel_step m c r) a b = get-set_same w.processes p (process_after_answer m c r) (get_past w.processes p s a) ∙ sym (get-set_same v.processes p (process_after_answer m c r) (get_past v.processes p s b))

-- where a process makes the same step in a world and in its advance, what is ahead of the one is ahead of the other
pub both_step : (w v u : WorldState) (p : ℕ) (s : Process) (t : StepEffect) → slice_get w.processes p ≡ Some s → slice_get v.processes p ≡ Some s
    → IsConsistent w.kernel → IsAdvance w v → IsAdvance (after v p t) u → IsAdvance (after w p t) u
both_step w v u p s t a b c h i = record {
  kernel = alike_then (after w p t).kernel (after v p t).kernel u.kernel (kernel_alike w v p t c h.kernel) i.kernel;
  processes = λ j. at_or_other (λ n. Both IsAhead (slice_get (after w p t).processes n) (slice_get u.processes n)) p j
      (subst (λ o. Both IsAhead o (slice_get u.processes p)) (sym (same_after w v p s t a b)) (i.processes p))
      (λ other.
      let first = subst (λ o. Both IsAhead o (slice_get v.processes j)) (sym (after_other w j p t other)) (h.processes j) in
      let then = subst (λ o. Both IsAhead o (slice_get u.processes j)) (after_other v j p t other) (i.processes j) in
      ahead_of_ahead (slice_get (after w p t).processes j) (slice_get v.processes j) (slice_get u.processes j) first then);
}

-- a local step of a process keeps the advance
pub local_keeps : (w v : WorldState) (p : ℕ) (m q : Machine) (u : Process) → slice_get w.processes p ≡ Some (Running m) → slice_get v.processes p ≡ Some u
    → next_action m ≡ moves q → IsAdvance w v → IsAhead (Running m) u → IsAdvance (after w p (local_step q)) v
local_keeps w v p m q u a b e h i = record {
  kernel = h.kernel;
  processes = λ j. at_or_other (λ n. Both IsAhead (slice_get (after w p (local_step q)).processes n) (slice_get v.processes n)) p j here
      (λ other. subst (λ o. Both IsAhead o (slice_get v.processes j)) (sym (after_other w j p (local_step q) other)) (h.processes j));
}
  where
    now : slice_get (after w p (local_step q)).processes p ≡ Some (Running q)
    now = get-set_same w.processes p (Running q) (get_past w.processes p (Running m) a)

    here : Both IsAhead (slice_get (after w p (local_step q)).processes p) (slice_get v.processes p)
    here = subst (λ o. Both IsAhead o (slice_get v.processes p)) (sym now) (subst (λ o. Both IsAhead (Some (Running q)) o) (sym b) (ahead_moves m q u e i))

-- a step that isn't effective changes nothing
pub idle : (t : StepEffect) → (t ≡ nothing) ⊎ IsEffective t
idle nothing = inl refl
idle _ = inr tt

-- levels of worlds: level 0 has the advance of the start, and level n + 1 that of each step by which a
-- process goes on from a world of level n
pub record AreLevels (start : WorldState) (V : ℕ → WorldState → Type 0) : Type 0 where
  pub begins : HasAdvance (V 0) (unwaiting start)
  pub goes_on : (n : ℕ) (v : WorldState) (p : ℕ) → V n v → GoesOn (step_effect_in v p) → HasAdvance (V (n + 1)) (step v p)

-- a process that stands in a world and in its advance takes the same step
pub same_in_advance : (w v : WorldState) (p : ℕ) (s : Process) → IsConsistent w.kernel → IsAdvance w v → slice_get w.processes p ≡ Some s → slice_get v.processes p ≡ Some s
    → step_effect_in v p ≡ step_effect_in w p
same_in_advance w v p s consistent h a b = effect_alike w.kernel v.kernel p (slice_get v.processes p) consistent h.kernel ∙ ap (λ o. step_effect w.kernel p o) (b ∙ sym a)

-- a step by which a process goes on is local and keeps the advance, or is a call that is made in the advance, too
abbrev pub StaysOrSteps : WorldState → WorldState → ℕ → Type 0
StaysOrSteps w v p =
    ((q : Machine) × (step_effect_in w p ≡ local_step q) × IsAdvance (step w p) v)
    ⊎ ((calls_in p (step_effect_in w p) ≡ 1) × (step_effect_in v p ≡ step_effect_in w p) × ((u : WorldState) → IsAdvance (step v p) u → IsAdvance (step w p) u))

pub stays_or_steps : (w v : WorldState) (p : ℕ) → IsConsistent w.kernel → IsAdvance w v → GoesOn (step_effect_in w p) → StaysOrSteps w v p
stays_or_steps w v p consistent h goes = by (step_of w p)
  where
    ahead : (s : Process) (o : Option Process) → slice_get v.processes p ≡ o → Both IsAhead (Some s) o → (u : Process) × (slice_get v.processes p ≡ Some u) × IsAhead s u
    ahead s None e i = absurd i
    ahead s (Some u) e i = (u, e, i)

    there : (s : Process) → slice_get w.processes p ≡ Some s → (u : Process) × (slice_get v.processes p ≡ Some u) × IsAhead s u
    there s a = ahead s (slice_get v.processes p) refl (subst (λ o. Both IsAhead o (slice_get v.processes p)) a (h.processes p))

    at_call : (s : Process) → slice_get w.processes p ≡ Some s → IsAtCall s → calls_in p (step_effect_in w p) ≡ 1 → StaysOrSteps w v p
    at_call s a at one =
        let u = there s a in
        let b : slice_get v.processes p ≡ Some s = u.1 ∙ ap (λ x. Some x) (stays s u.0 at u.2) in
        let same = same_in_advance w v p s consistent h a b in
        inr (one, same, λ x next. both_step w v x p s (step_effect_in w p) a b consistent h (subst (λ t. IsAdvance (after v p t) x) same next))

    by : StepOf w p → StaysOrSteps w v p
    by (still e) = absurd (subst GoesOn e goes)
    by (by_itself m q a acts e) =
        let u = there (Running m) a in
        inl (q, e, subst (λ t. IsAdvance (after w p t) v) (sym e) (local_keeps w v p m q u.0 a u.1 acts h u.2))
    by (by_call m c r a asks is e) = at_call (Running m) a (c, asks) (ap (calls_in p) e)
    by (by_answer m c r a is e) = at_call (Waiting m c) a tt (ap (calls_in p) e)

-- a step that goes on, from a world whose advance a level has
goes_advance : (start : WorldState) (V : ℕ → WorldState → Type 0) → AreLevels start V → (n : ℕ) (w : WorldState) (p : ℕ) → IsConsistent w.kernel → GoesOn (step_effect_in w p) → HasAdvance (V n) w
    → HasAdvance (V (n + calls_in p (step_effect_in w p))) (step w p)
goes_advance start V levels n w p consistent goes has = elim (stays_or_steps w has.0 p consistent has.2 goes) [
  | inl local ↦
      let none : calls_in p (step_effect_in w p) ≡ 0 = ap (calls_in p) local.1 in
      let number : n ≡ n + calls_in p (step_effect_in w p) = omega (arith, none) in
      subst (λ k. HasAdvance (V k) (step w p)) number (has.0, has.1, local.2)
  | inr call ↦
      let next = levels.goes_on n has.0 p has.1 (subst GoesOn (sym call.1) goes) in
      subst (λ k. HasAdvance (V (n + k)) (step w p)) (sym call.0) (next.0, next.1, call.2 next.0 next.2)
]

-- a level has the advance of the world, but for who waits; its number, and one for each process that waits, are k at most
record IsWithin (V : ℕ → WorldState → Type 0) (w : WorldState) (k : ℕ) : Type 0 where
  number : ℕ
  has : HasAdvance (V number) (unwaiting w)
  few : number + waiting w ≤ k

step_within : (start : WorldState) (V : ℕ → WorldState → Type 0) → AreLevels start V → (k : ℕ) (w : WorldState) (p : ℕ) → IsConsistent w.kernel → AskAgain w → IsWithin V w k
    → IsWithin V (step w p) (k + calls_in p (step_effect_in w p))
step_within start V levels k w p consistent asks h = elim (tells (step_effect_in w p)) [
  | inl goes ↦
      let same = same_step w p asks goes in
      let has = goes_advance start V levels h.number (unwaiting w) p consistent (subst GoesOn (sym same) goes) h.has in
      record {
        number = h.number + calls_in p (step_effect_in w p);
        has = subst (HasAdvance (V (h.number + calls_in p (step_effect_in w p)))) (sym (goes_unwaiting w p asks goes)) (subst (λ t. HasAdvance (V (h.number + calls_in p t)) (step (unwaiting w) p)) same has);
        few = let few = h.few in let less = waiting_goes w p goes in omega (arith, few, less);
      }
  | inr none ↦ record {
    number = h.number;
    has = subst (HasAdvance (V h.number)) (sym (still_unwaiting w p none)) h.has;
    few = let few = h.few in let more = waiting_still w p none in omega (arith, few, more);
  }
]

-- so has one that of whatever world the steps lead to, by the calls among them
simulates : (start : WorldState) (V : ℕ → WorldState → Type 0) → AreLevels start V → (ps : List ℕ) (k : ℕ) (w : WorldState) → IsConsistent w.kernel → AskAgain w → IsWithin V w k
    → IsWithin V (run w ps) (k + length (entries w ps))
unfolding run entries
simulates start V levels [] k w consistent asks h = subst (λ n. IsWithin V w n) (omega arith) h
simulates start V levels (p ∷ ps) k w consistent asks h =
    let sums = length-append (entry_of p (step_effect_in w p)) (entries (step w p) ps) in
    subst (λ n. IsWithin V (run (step w p) ps) n) (omega (arith, sums))
    (simulates start V levels ps (k + calls_in p (step_effect_in w p)) (step w p) (consistent_after w p (step_effect_in w p) consistent) (asks_on w p asks) (step_within start V levels k w p consistent asks h))

pub asks_run : (ps : List ℕ) (w : WorldState) → AskAgain w → AskAgain (run w ps)
unfolding run
asks_run [] w asks = asks
asks_run (p ∷ ps) w asks = asks_run ps (step w p) (asks_on w p asks)

-- no process of a world at rest goes on
pub rests_on : (w : WorldState) (p : ℕ) → AreAtRest w → GoesOn (step_effect_in w p) → ⊥
rests_on w p rest h = by (step_of w p)
  where
    by : StepOf w p → ⊥
    by (still e) = subst GoesOn e h
    by (by_itself m q at asks e) = rest p (Running m) at
    by (by_call m c a at asks is e) = rest p (Running m) at
    by (by_answer m c r at is e) = let waits : (answer w.kernel p c).0 ≡ Wait = rest p (Waiting m c) at in absurd (cc)

-- a process at rest is at a call, also if it hasn't begun to wait
rest_at_call : (w : WorldState) (p : ℕ) (s : Process) → IsAtRest w.kernel p s → AsksAgain s → IsAtCall (before_wait s)
rest_at_call w p x rest asks = search rules

-- the world at rest but for who waits has the processes of its advance
unwaiting_stays : (w v : WorldState) → AskAgain w → AreAtRest w → IsAdvance (unwaiting w) v → AreAlike (unwaiting w) v
unwaiting_stays w v asks rest h = record {
  processes = same_by_gets v.processes (unwaiting w).processes (λ p. by p (slice_get w.processes p) (slice_get v.processes p) refl refl);
  kernel = h.kernel;
}
  where
    by : (p : ℕ) (o b : Option Process) → slice_get w.processes p ≡ o → slice_get v.processes p ≡ b → slice_get v.processes p ≡ slice_get (unwaiting w).processes p
    by p None None a b = b ∙ sym (unwaiting_at w p None a)
    by p None (Some u) a b = absurd (subst (λ x. Both IsAhead x (Some u)) (unwaiting_at w p None a) (subst (λ x. Both IsAhead (slice_get (unwaiting w).processes p) x) b (h.processes p)))
    by p (Some s) None a b = absurd (subst (λ x. Both IsAhead x None) (unwaiting_at w p (Some s) a) (subst (λ x. Both IsAhead (slice_get (unwaiting w).processes p) x) b (h.processes p)))
    by p (Some s) (Some u) a b =
        let i : IsAhead (before_wait s) u = subst (λ x. Both IsAhead x (Some u)) (unwaiting_at w p (Some s) a) (subst (λ x. Both IsAhead (slice_get (unwaiting w).processes p) x) b (h.processes p)) in
        b ∙ ap (λ x. Some x) (stays (before_wait s) u (rest_at_call w p s (rest p s a) (asks p s a)) i) ∙ sym (unwaiting_at w p (Some s) a)

-- a level has the advance of whatever world any steps lead to, but for who waits
pub reaches_world : (start : WorldState) (V : ℕ → WorldState → Type 0) → IsConsistent start.kernel → AskAgain start → AreLevels start V → (ps : List ℕ)
    → (n : ℕ) × HasAdvance (V n) (unwaiting (run start ps))
reaches_world start V consistent starts levels ps =
    let h = simulates start V levels ps (waiting start) start consistent starts (record { number = 0; has = levels.begins; few = omega arith }) in
    (h.number, h.has)

-- a level has the world at rest that any steps lead to, but for who waits; its number, and one for each process that waits, are
-- no more than the calls among the steps
pub reaches_end : (start : WorldState) (V : ℕ → WorldState → Type 0) → IsConsistent start.kernel → AskAgain start → AreLevels start V → (ps : List ℕ) → AreAtRest (run start ps)
    → (v : WorldState) × (n : ℕ) × V n v × NoneGoesOn v × AreAlike (unwaiting (run start ps)) v × (n + waiting (run start ps) ≤ waiting start + length (entries start ps))
reaches_end start V consistent starts levels ps rest =
    let w = run start ps in
    let asks = asks_run ps start starts in
    let good = consistent_run ps start consistent in
    let h = simulates start V levels ps (waiting start) start consistent starts (record { number = 0; has = levels.begins; few = omega arith }) in
    let has = h.has in
    let alike = unwaiting_stays w has.0 asks rest has.2 in
    (has.0, h.number, has.1, λ p goes. none_goes w p asks (rests_on w p rest) (subst GoesOn (same_effect (unwaiting w) has.0 p good alike) goes), alike, h.few)

pub holds_every_end : HoldsEveryEnd
holds_every_end start vs consistent asks closed ps rest =
    let end = reaches_end start (λ n. Contains vs) consistent asks (record { begins = closed.begins; goes_on = λ n v p. closed.goes_on v p }) ps rest in
    (end.0, end.2, end.3, end.4)
