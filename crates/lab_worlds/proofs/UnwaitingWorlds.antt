-- A process that waits does next what it would do if it stood before its call.
use Rattle.std.proofs.Common.{ℕ, ◌≡◌, ◌<◌, ◌≤◌, arith, length, ◌∷◌, [], List, Option, Some, None, refl, sym, ap, subst, ◌∙◌, slice_get, set, map, inl, inr, ◌⊎◌, rules}
use Rattle.std.specs.Option.{option_map}
use Rattle.std.proofs.lemmas.Bool.{cases_lt}
use Rattle.std.proofs.lemmas.List.{map-set}
use Rattle.std.proofs.lemmas.Option.{slice_get-map, slice_get_past}
use Rattle.lc3_machine.specs.Process.{Process as Machine}
use Rattle.ipc_traps.specs.Asked.{Request, Local, next_request}
use Rattle.ipc_kernel.specs.declared.call.Call.{Call}
use Rattle.ipc_kernel.specs.declared.call.Answer.{Answer}
use Rattle.ipc_kernel.specs.declared.call.Answer.TheVariants.{Done, Wait}
use Rattle.ipc_kernel.specs.declared.call.Reply.{Reply}
use Rattle.ipc_kernel.specs.Kernel.{KernelState}
use Rattle.ipc_kernel.specs.Answer.{answer}
use Rattle.ipc_kernel.proofs.LawfulAnswers.{answer_wait}
use Rattle.lab_sched.specs.Worlds.{Process, Running, Waiting, WorldState, NextAction, moves, calls, next_action, StepEffect, nothing, local_step, kernel_step, step_effect, step_effect_in, process_after_answer, process_after_reply_to, after, step, first_try, retry}
use Rattle.lab_sched.specs.Stepping.{before_wait}
use Rattle.lab_sched.proofs.ListPlaces.{get-set_same, get_past, set_same}
use Rattle.lab_sched.proofs.Commutes.{after_other}
use Rattle.lab_worlds.specs.Unwaiting.{GoesOn, unwaiting, AsksAgain, AskAgain, StepsUnaffectedByWaits}
use Rattle.lab_worlds.specs.Closed.{RestsAlike}
use Rattle.lab_sched.specs.Finished.{IsAtRest}
use Rattle.lab_sched.specs.Verdicts.{IsRunning}
use Rattle.lab_worlds.proofs.AfterLocalSteps.{same_by_gets, same_some}
use Rattle.lab_worlds.proofs.Pushes.{at_or_other}

-- a step goes on, or it doesn't
pub tells : (t : StepEffect) → GoesOn t ⊎ (GoesOn t → ⊥)
tells nothing = inr (λ h. h)
tells (local_step n) = inl tt
tells (kernel_step m c Wait) = inr (λ h. h)
tells (kernel_step m c (Done r)) = inl tt

back_twice : (s : Process) → before_wait (before_wait s) ≡ before_wait s
back_twice x = search rules

all_twice : (ss : List Process) → map before_wait (map before_wait ss) ≡ map before_wait ss
all_twice [] = refl
all_twice (s ∷ ss) = ap (λ x. x ∷ map before_wait (map before_wait ss)) (back_twice s) ∙ ap (λ xs. before_wait s ∷ xs) (all_twice ss)

pub unwaiting_twice : (w : WorldState) → unwaiting (unwaiting w) ≡ unwaiting w
unwaiting_twice w = ap {B = WorldState} (λ ps. record { processes = ps; kernel = w.kernel }) (all_twice w.processes)

-- process p in the world in which none has begun to wait
pub unwaiting_at : (w : WorldState) (p : ℕ) (o : Option Process) → slice_get w.processes p ≡ o → slice_get (unwaiting w).processes p ≡ option_map before_wait o
unwaiting_at w p o a = slice_get-map before_wait w.processes p ∙ ap (λ x. option_map before_wait x) a

retry_none : (m : Machine) (c : Call) (a : Answer) → (GoesOn (retry m c a) → ⊥) → GoesOn (kernel_step m c a) → ⊥
retry_none m c x h = search rules

same_here : (k : KernelState) (p : ℕ) (s : Process) → AsksAgain s → GoesOn (step_effect k p (Some s)) → step_effect k p (Some (before_wait s)) ≡ step_effect k p (Some s)
same_here k p x asks h = search rules

none_here : (k : KernelState) (p : ℕ) (s : Process) → AsksAgain s → (GoesOn (step_effect k p (Some s)) → ⊥) → GoesOn (step_effect k p (Some (before_wait s))) → ⊥
none_here k p x asks h = search rules

-- the effect of a step where none has begun to wait
unwaiting_effect : (w : WorldState) (p : ℕ) (o : Option Process) → slice_get w.processes p ≡ o → step_effect_in (unwaiting w) p ≡ step_effect w.kernel p (option_map before_wait o)
unwaiting_effect w p o a = ap (λ x. step_effect w.kernel p x) (unwaiting_at w p o a)

pub effect_at : (w : WorldState) (p : ℕ) (o : Option Process) → slice_get w.processes p ≡ o → step_effect_in w p ≡ step_effect w.kernel p o
effect_at w p o a = ap (λ x. step_effect w.kernel p x) a

pub same_step : (w : WorldState) (p : ℕ) → AskAgain w → GoesOn (step_effect_in w p) → step_effect_in (unwaiting w) p ≡ step_effect_in w p
same_step w p asks h = by (slice_get w.processes p) refl
  where
    by : (o : Option Process) → slice_get w.processes p ≡ o → step_effect_in (unwaiting w) p ≡ step_effect_in w p
    by None a = unwaiting_effect w p None a ∙ sym (effect_at w p None a)
    by (Some s) a = unwaiting_effect w p (Some s) a ∙ same_here w.kernel p s (asks p s a) (subst GoesOn (effect_at w p (Some s) a) h) ∙ sym (effect_at w p (Some s) a)

pub none_goes : (w : WorldState) (p : ℕ) → AskAgain w → (GoesOn (step_effect_in w p) → ⊥) → GoesOn (step_effect_in (unwaiting w) p) → ⊥
none_goes w p asks h g = by (slice_get w.processes p) refl
  where
    by : (o : Option Process) → slice_get w.processes p ≡ o → ⊥
    by None a = subst GoesOn (unwaiting_effect w p None a) g
    by (Some s) a = none_here w.kernel p s (asks p s a) (λ x. h (subst GoesOn (sym (effect_at w p (Some s) a)) x)) (subst GoesOn (unwaiting_effect w p (Some s) a) g)

-- a step that begins to wait
begun : (w : WorldState) (p : ℕ) (m : Machine) (c : Call) → slice_get w.processes p ≡ Some (Running m) → (answer w.kernel p c).0 ≡ Wait → unwaiting (after w p (kernel_step m c Wait)) ≡ unwaiting w
unfolding process_after_answer
begun w p m c a waits =
    let ps : map before_wait (set w.processes p (Waiting m c)) ≡ map before_wait w.processes =
    map-set before_wait w.processes p (Waiting m c) ∙ set_same (map before_wait w.processes) p (Running m) (unwaiting_at w p (Some (Running m)) a) in
    ap {B = WorldState} (λ xs. record { processes = xs; kernel = (answer w.kernel p c).1 }) ps ∙ ap {B = WorldState} (λ k. record { processes = map before_wait w.processes; kernel = k }) (answer_wait w.kernel p c waits)

-- how a process steps: not at all, by itself, by trying its call, or by the answer for which it waits
pub data StepOf (w : WorldState) (p : ℕ) : Type 0 where
  still : step_effect_in w p ≡ nothing → StepOf w p
  by_itself : (m q : Machine) → slice_get w.processes p ≡ Some (Running m) → next_action m ≡ moves q → step_effect_in w p ≡ local_step q → StepOf w p
  by_call : (m : Machine) (c : Call) (a : Answer) → slice_get w.processes p ≡ Some (Running m) → next_action m ≡ calls c → (answer w.kernel p c).0 ≡ a → step_effect_in w p ≡ kernel_step m c a → StepOf w p
  by_answer : (m : Machine) (c : Call) (r : Reply) → slice_get w.processes p ≡ Some (Waiting m c) → (answer w.kernel p c).0 ≡ Done r → step_effect_in w p ≡ kernel_step m c (Done r) → StepOf w p

pub step_of : (w : WorldState) (p : ℕ) → StepOf w p
step_of w p = by (slice_get w.processes p) refl
  where
    running : (m : Machine) (a : NextAction) → next_action m ≡ a → slice_get w.processes p ≡ Some (Running m) → StepOf w p
    running m (moves q) e at = by_itself m q at e (effect_at w p (Some (Running m)) at ∙ ap (first_try w.kernel p m) e)
    running m (calls c) e at = by_call m c (answer w.kernel p c).0 at e refl (effect_at w p (Some (Running m)) at ∙ ap (first_try w.kernel p m) e)

    waiting : (m : Machine) (c : Call) (a : Answer) → slice_get w.processes p ≡ Some (Waiting m c) → (answer w.kernel p c).0 ≡ a → step_effect_in w p ≡ retry m c a → StepOf w p
    waiting m c Wait at is e = still e
    waiting m c (Done r) at is e = by_answer m c r at is e

    by : (o : Option Process) → slice_get w.processes p ≡ o → StepOf w p
    by (Some (Running m)) at = running m (next_action m) refl at
    by (Some (Waiting m c)) at = waiting m c (answer w.kernel p c).0 at refl (effect_at w p (Some (Waiting m c)) at)
    by o at = still (effect_at w p o at)

pub still_unwaiting : (w : WorldState) (p : ℕ) → (GoesOn (step_effect_in w p) → ⊥) → unwaiting (step w p) ≡ unwaiting w
still_unwaiting w p h = search (rules, step_of, begun)

-- a process that has its reply doesn't wait
replied_back : (m : Machine) (c : Call) (r : Reply) → before_wait (process_after_answer m c (Done r)) ≡ process_after_answer m c (Done r)
unfolding process_after_answer
replied_back m c r = by (next_request m)
  where
    by : (q : Request) → before_wait (process_after_reply_to m q r) ≡ process_after_reply_to m q r
    by (Local n) = refl
    by _ = refl

-- a step that goes on
pub moved_unwaiting : (w : WorldState) (p : ℕ) (t : StepEffect) → GoesOn t → unwaiting (after w p t) ≡ after (unwaiting w) p t
moved_unwaiting w p x h = search (rules, map-set, replied_back)

-- a step that goes on, where none has begun to wait
pub goes_unwaiting : (w : WorldState) (p : ℕ) → AskAgain w → GoesOn (step_effect_in w p) → unwaiting (step w p) ≡ step (unwaiting w) p
goes_unwaiting w p asks h = search (rules, moved_unwaiting, same_step)

pub commutes : (w : WorldState) (p : ℕ) → AskAgain w → unwaiting (step w p) ≡ unwaiting (step (unwaiting w) p)
commutes w p asks = elim (tells (step_effect_in w p)) [
  | inl goes ↦
      let one = goes_unwaiting w p asks goes in
      sym (unwaiting_twice (step w p)) ∙ ap unwaiting one
  | inr none ↦ still_unwaiting w p none ∙ sym (unwaiting_twice w) ∙ sym (still_unwaiting (unwaiting w) p (none_goes w p asks none))
]

-- those that wait ask for what they wait for, also after a step
answered_asks : (m : Machine) (c : Call) (a : Answer) → next_action m ≡ calls c → AsksAgain (process_after_answer m c a)
unfolding process_after_answer
answered_asks m c Wait e = e
answered_asks m c (Done r) e = by (next_request m)
  where
    by : (q : Request) → AsksAgain (process_after_reply_to m q r)
    by (Local n) = tt
    by _ = tt

pub asks_on : (w : WorldState) (p : ℕ) → AskAgain w → AskAgain (step w p)
asks_on w p asks = by (step_of w p)
  where
    -- p becomes one that asks for what it waits for
    made : (s u : Process) (t : StepEffect) → slice_get w.processes p ≡ Some s → step_effect_in w p ≡ t → slice_get (after w p t).processes p ≡ Some u → AsksAgain u → AskAgain (step w p)
    made s u t a e there good = subst (λ x. AskAgain (after w p x)) (sym e) (λ i. at_or_other (λ n. (x : Process) → slice_get (after w p t).processes n ≡ Some x → AsksAgain x) p i
        (λ x at. subst AsksAgain (same_some u x (slice_get (after w p t).processes p) there at) good) (λ other x at. asks i x (sym (after_other w i p t other) ∙ at)))

    answered : (s : Process) (m : Machine) (c : Call) (a : Answer) → slice_get w.processes p ≡ Some s → step_effect_in w p ≡ kernel_step m c a → next_action m ≡ calls c → AskAgain (step w p)
    answered s m c a at e is = made s (process_after_answer m c a) (kernel_step m c a) at e (get-set_same w.processes p (process_after_answer m c a) (get_past w.processes p s at)) (answered_asks m c a is)

    by : StepOf w p → AskAgain (step w p)
    by (still e) = subst (λ t. AskAgain (after w p t)) (sym e) asks
    by (by_itself m q at is e) = made (Running m) (Running q) (local_step q) at e (get-set_same w.processes p (Running q) (get_past w.processes p (Running m) at)) tt
    by (by_call m c a at is done e) = answered (Running m) m c a at e is
    by (by_answer m c r at done e) = answered (Waiting m c) m c (Done r) at e (asks p (Waiting m c) at)

pub unwaiting_step : StepsUnaffectedByWaits
unwaiting_step w p asks = search (rules, same_step, none_goes, still_unwaiting, commutes, asks_on)

-- processes at rest that are the same before they began to wait are the same
one_rest : (k j : KernelState) (p : ℕ) (s u : Process) → AsksAgain s → AsksAgain u → IsAtRest k p s → IsAtRest j p u → before_wait u ≡ before_wait s → u ≡ s
one_rest k j p x u a b h i e = search rules

pub rests_alike : RestsAlike
rests_alike w v a b h i same = record {
  processes = same_by_gets v.processes w.processes (λ p. by p (slice_get w.processes p) (slice_get v.processes p) refl refl);
  kernel = same.kernel;
}
  where
    both : (p : ℕ) (x y : Option Process) → slice_get w.processes p ≡ x → slice_get v.processes p ≡ y → option_map before_wait y ≡ option_map before_wait x
    both p x y c d = sym (unwaiting_at v p y d) ∙ ap (λ ps. slice_get ps p) same.processes ∙ unwaiting_at w p x c

    by : (p : ℕ) (x y : Option Process) → slice_get w.processes p ≡ x → slice_get v.processes p ≡ y → slice_get v.processes p ≡ slice_get w.processes p
    by p None None c d = d ∙ sym c
    by p (Some s) (Some u) c d =
        let e : Some (before_wait u) ≡ Some (before_wait s) = both p (Some s) (Some u) c d in
        let back : before_wait u ≡ before_wait s = cc in
        d ∙ ap (λ x. Some x) (one_rest w.kernel v.kernel p s u (a p s c) (b p u d) (h p s c) (i p u d) back) ∙ sym c
    by p x y c d = let e = both p x y c d in absurd (cc)

-- a process that doesn't wait, in the world in which none has begun to wait
pub same_at : (w : WorldState) (p : ℕ) (s : Process) → slice_get w.processes p ≡ Some s → before_wait s ≡ s → slice_get (unwaiting w).processes p ≡ slice_get w.processes p
same_at w p s a back = unwaiting_at w p (Some s) a ∙ ap (λ x. Some x) back ∙ sym a

-- where none of the processes, which are n at most, waits, none has begun to
pub same_unwaiting : (w : WorldState) (n : ℕ) → length w.processes ≤ n → ((p : ℕ) → p < n → slice_get (unwaiting w).processes p ≡ slice_get w.processes p) → unwaiting w ≡ w
same_unwaiting w n few h = ap {B = WorldState} (λ ps. record { processes = ps; kernel = w.kernel }) (same_by_gets (unwaiting w).processes w.processes at)
  where
    at : (p : ℕ) → slice_get (unwaiting w).processes p ≡ slice_get w.processes p
    at p = elim (cases_lt p n) [
      | inl within ↦ h p within
      | inr past ↦
          let none : slice_get w.processes p ≡ None = slice_get_past w.processes p (omega arith) in
          unwaiting_at w p None none ∙ sym none
    ]

running_back : (s : Process) → IsRunning s → before_wait s ≡ s
running_back x h = search rules

running_asks : (s : Process) → IsRunning s → AsksAgain s
running_asks x h = search rules

abbrev pub AreRunning : WorldState → Type 0
AreRunning w = (p : ℕ) (s : Process) → slice_get w.processes p ≡ Some s → IsRunning s

pub running_unwaiting : (w : WorldState) → AreRunning w → unwaiting w ≡ w
running_unwaiting w h = search (rules, same_unwaiting, unwaiting_at, same_at, running_back)

pub running_ask : (w : WorldState) → AreRunning w → AskAgain w
running_ask w h p s a = running_asks s (h p s a)
