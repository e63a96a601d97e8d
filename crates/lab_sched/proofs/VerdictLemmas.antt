-- How a world stands, by how each of its processes stands, and the verdict that is worked out.
use Rattle.std.proofs.Common.{◌≡◌, ℕ, Bool, true, false, not, ◌&&◌, List, Some, length, slice_get, get_or, refl, sym, ap, subst, ◌∙◌, arith, inl, inr, ◌⊎◌, ◌<◌, Option, None, rules}
use Rattle.std.specs.List.{list_all, list_any, range_with_len}
use Rattle.std.proofs.lemmas.List.Folds.{Any-from_list_any, list_any_at}
use Rattle.std.proofs.lemmas.List.FromFn.{get_or-range_with_len, length-range_with_len}
use Rattle.std.proofs.lemmas.List.Sums.{AllPass-from_list_all, list_all-from_AllPass}
use Rattle.std.proofs.lemmas.Option.{slice_get_within, slice_get_read, slice_get-get_or, slice_get_cases, get_or_from_slice_get}
use Rattle.lab_sched.specs.Worlds.{Process, Running, Waiting, Ended, WorldState, StepEffect, nothing, local_step, kernel_step, step_effect, step_effect_in, IsEffective, NextAction, next_action, first_try, retry}
use Rattle.lab_sched.specs.declared.verdict.Verdict.{Verdict}
use Rattle.lab_sched.specs.declared.verdict.Verdict.TheVariants as verdict
use Rattle.lab_sched.specs.Verdicts.{IsRunning, IsWaiting, HasEnded, HaveEnded, AreStuck, IsVerdict, is_running, is_waiting, is_ended, is_nothing, all_ended, none_moves, are_stuck, verdict_of, VerdictWorkedOut, HasNotEndedIn}
use Rattle.lc3_machine.specs.Process.{Process as Machine}
use Rattle.ipc_kernel.specs.Kernel.{KernelState}
use Rattle.ipc_kernel.specs.Answer.{is_done}
use Rattle.ipc_kernel.specs.declared.call.Call.{Call}
use Rattle.ipc_kernel.specs.declared.call.Answer.{Answer}

open_ended : (w : WorldState) (p : ℕ) (o : Option Process) → slice_get w.processes p ≡ o → IsEffective (step_effect w.kernel p o) → HaveEnded w → ⊥
open_ended w p None at h all = h
open_ended w p (Some (Running m)) at h all = all p (Running m) at
open_ended w p (Some (Waiting m c)) at h all = all p (Waiting m c) at
open_ended w p (Some (Ended e)) at h all = h

-- where a step is effective, the world is open
pub is_open : (w : WorldState) (p : ℕ) → IsEffective (step_effect_in w p) → (HaveEnded w → ⊥) × (AreStuck w → ⊥)
is_open w p h = (open_ended w p (slice_get w.processes p) refl h, λ stuck. stuck.none_moves p h)

-- a running process can always go on
first_moves : (k : KernelState) (p : ℕ) (m : Machine) (a : NextAction) → IsEffective (first_try k p m a)
first_moves k p m x = search rules

pub running_moves : (k : KernelState) (p : ℕ) (m : Machine) → IsEffective (step_effect k p (Some (Running m)))
running_moves k p m = first_moves k p m (next_action m)

-- a waiting process can go on where its call is answered
pub retry_moves : (m : Machine) (c : Call) (a : Answer) → is_done a ≡ true → IsEffective (retry m c a)
retry_moves m c x is = search rules

pub retry_rests : (m : Machine) (c : Call) (a : Answer) → is_done a ≡ false → retry m c a ≡ nothing
retry_rests m c x is = search rules

pub moves_on : (k : KernelState) (p : ℕ) (s : Process) → IsRunning s → step_effect k p (Some s) ≡ nothing → ⊥
moves_on k p x is e = search rules

waits_at : (k : KernelState) (p : ℕ) (s : Process) → step_effect k p (Some s) ≡ nothing → (HasEnded s → ⊥) → IsWaiting s
waits_at k p x e lives = search rules

some_at : {A : Type 0} (xs : List A) (p : ℕ) → p < length xs → (x : A) × (slice_get xs p ≡ Some x)
some_at xs p h = elim (slice_get_cases xs p).1 [ inl t ↦ (t.0, t.2) | inr t ↦ absurd (omega (arith, t.0)) ]

-- no step is effective, and some process hasn't ended
pub stuck_from : (w : WorldState) → ((p : ℕ) → p < length w.processes → step_effect_in w p ≡ nothing)
    → (p : ℕ) → p < length w.processes → HasNotEndedIn w p → AreStuck w
stuck_from w rests p below lives = search (rules, some_at, waits_at, moves_on, slice_get_within, slice_get_cases)

module _ {X : Type 0} (test : X → Bool) (xs : List X) where
  -- all pass where each does
  all-from : ((i : ℕ) (x : X) → slice_get xs i ≡ Some x → test x ≡ true) → list_all test xs ≡ true
  all-from each = list_all-from_AllPass test xs (λ i d within. each i (get_or xs i d) (slice_get-get_or xs i d within))

  -- some element passes
  any-at : list_any test xs ≡ true → (i : ℕ) × (x : X) × (slice_get xs i ≡ Some x) × (test x ≡ true)
  any-at some = let found = Any-from_list_any test xs some in (found.0, found.1, slice_get_read xs (length xs) found.0 found.1 refl found.2 (sym found.3), found.4)

  any-from : (i : ℕ) (x : X) → slice_get xs i ≡ Some x → test x ≡ true → list_any test xs ≡ true
  any-from i x at pass = list_any_at test xs i x (slice_get_within xs i x at) (ap test (get_or_from_slice_get xs i x x at) ∙ pass)

-- the tests and what they say
runs-tells : (s : Process) → (is_running s ≡ true → IsRunning s) × (IsRunning s → is_running s ≡ true)
runs-tells x = search rules

waits-tells : (s : Process) → (is_waiting s ≡ true → IsWaiting s) × (IsWaiting s → is_waiting s ≡ true)
waits-tells x = search rules

ended-tells : (s : Process) → (is_ended s ≡ true → HasEnded s) × (HasEnded s → is_ended s ≡ true)
ended-tells x = search rules

rests-tells : (t : StepEffect) → (is_nothing t ≡ true → IsEffective t → ⊥) × ((IsEffective t → ⊥) → is_nothing t ≡ true)
rests-tells nothing = (λ e h. h, λ h. refl)
rests-tells (local_step n) = (λ e h. cc, λ h. absurd (h tt))
rests-tells (kernel_step m c a) = (λ e h. cc, λ h. absurd (h tt))

-- a test that tells whether P holds
tells : (b : Bool) (P : Type 0) → (b ≡ true → P) → (P → b ≡ true) → ((b ≡ true) × P) ⊎ ((b ≡ false) × (P → ⊥))
tells x y there back = search rules

all_ended-tells : (w : WorldState) → ((all_ended w ≡ true) × HaveEnded w) ⊎ ((all_ended w ≡ false) × (HaveEnded w → ⊥))
all_ended-tells w = tells (all_ended w) (HaveEnded w)
    (λ e p s at. (ended-tells s).0 (ap is_ended (sym (get_or_from_slice_get w.processes p s s at)) ∙ AllPass-from_list_all is_ended w.processes e p s (slice_get_within w.processes p s at)))
    (λ h. all-from is_ended w.processes (λ p s at. (ended-tells s).1 (h p s at)))

none_moves-yes : (w : WorldState) → none_moves w ≡ true → (p : ℕ) → IsEffective (step_effect_in w p) → ⊥
none_moves-yes w none p h = elim (slice_get_cases w.processes p).1 [
  | inl t ↦
      let n : ℕ = length w.processes in
      let still = AllPass-from_list_all (λ p. is_nothing (step_effect_in w p)) (range_with_len 0 n) none p 0 (omega (arith, length-range_with_len 0 n, t.1)) in
      (rests-tells (step_effect_in w p)).0 (ap (λ q. is_nothing (step_effect_in w q)) (sym (get_or-range_with_len 0 n p 0 t.1 ∙ omega arith)) ∙ still) h
  | inr t ↦ subst IsEffective (ap (λ o. step_effect w.kernel p o) t.1) h
]

none_moves-is : (w : WorldState) → ((p : ℕ) → IsEffective (step_effect_in w p) → ⊥) → none_moves w ≡ true
none_moves-is w h = all-from (λ p. is_nothing (step_effect_in w p)) (range_with_len 0 (length w.processes)) (λ i p at. (rests-tells (step_effect_in w p)).1 (h p))

all-three : (a b c : Bool) → (a && (not b && c)) ≡ true → (a ≡ true) × (b ≡ false) × (c ≡ true)
all-three x y c e = search rules

none_runs-is : (w : WorldState) → ((p : ℕ) (s : Process) → slice_get w.processes p ≡ Some s → IsRunning s → ⊥) → list_any is_running w.processes ≡ false
none_runs-is w none = elim (tells (list_any is_running w.processes) ⊥ (λ e. let found = any-at is_running w.processes e in none found.0 found.1 found.2 ((runs-tells found.1).0 found.3)) (λ h. absurd h)) [
  | inl t ↦ absurd t.1
  | inr t ↦ t.0
]

are_stuck-tells : (w : WorldState) → ((are_stuck w ≡ true) × AreStuck w) ⊎ ((are_stuck w ≡ false) × (AreStuck w → ⊥))
are_stuck-tells w = tells (are_stuck w) (AreStuck w)
    (λ e.
    let all = all-three (list_any is_waiting w.processes) (list_any is_running w.processes) (none_moves w) e in
    let found = any-at is_waiting w.processes all.0 in record {
      waits = (found.0, found.1, found.2, (waits-tells found.1).0 found.3);
      none_runs = λ p s at is. let some : list_any is_running w.processes ≡ true = any-from is_running w.processes p s at ((runs-tells s).1 is) in let none = all.1 in cc;
      none_moves = none_moves-yes w all.2;
    })
    (λ h.
    let some = any-from is_waiting w.processes h.waits.0 h.waits.1 h.waits.2 ((waits-tells h.waits.1).1 h.waits.3) in
    rw (some, none_runs-is w h.none_runs, none_moves-is w h.none_moves) refl)

waits_on : (s : Process) → IsWaiting s → HasEnded s → ⊥
waits_on x h e = search rules

pub verdict_worked_out : VerdictWorkedOut
unfolding verdict_of
verdict_worked_out w = elim (all_ended-tells w) [
  | inl t ↦ rw t.0 t.1
  | inr t ↦ elim (are_stuck-tells w) [ inl u ↦ rw (t.0, u.0) u.1 | inr u ↦ rw (t.0, u.0) (t.1, u.1) ]
]

pub verdict_from : (w : WorldState) (v : Verdict) → IsVerdict w v → v ≡ verdict_of w
unfolding verdict_of
verdict_from w verdict.Ended is = elim (all_ended-tells w) [ inl t ↦ rw t.0 refl | inr t ↦ absurd (t.1 is) ]
verdict_from w verdict.Stuck is = elim (all_ended-tells w) [
  | inl t ↦ absurd (waits_on is.waits.1 is.waits.3 (t.1 is.waits.0 is.waits.1 is.waits.2))
  | inr t ↦ elim (are_stuck-tells w) [ inl u ↦ rw (t.0, u.0) refl | inr u ↦ absurd (u.1 is) ]
]
verdict_from w verdict.Open is = elim (all_ended-tells w) [
  | inl t ↦ absurd (is.0 t.1)
  | inr t ↦ elim (are_stuck-tells w) [ inl u ↦ absurd (is.1 u.1) | inr u ↦ rw (t.0, u.0) refl ]
]
