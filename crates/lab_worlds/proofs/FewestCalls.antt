-- How many processes pass a test, how many wait, and how many calls steps have.
use Rattle.std.proofs.Common.{ℕ, Bool, subst, zero, suc, ◌+◌, ◌≤◌, ◌≡◌, List, [], ◌∷◌, Some, true, false, refl, ap, ◌∙◌, arith, length, slice_get, set, take, map, cond, count_by}
use Rattle.std.proofs.lemmas.List.Sums.{sum_by-cons, sum_by-set, count_by_more_yes, count_by_more_no}
use Rattle.std.proofs.lemmas.Option.{get_or_from_slice_get}
use Rattle.lc3_machine.specs.Process.{Process as Machine}
use Rattle.ipc_traps.specs.Asked.{Request, Local, next_request}
use Rattle.ipc_kernel.specs.declared.call.Call.{Call}
use Rattle.ipc_kernel.specs.declared.call.Reply.{Reply}
use Rattle.ipc_kernel.specs.declared.call.Answer.TheVariants.{Done, Wait}
use Rattle.lab_sched.specs.Worlds.{Process, Running, Waiting, Ended, WorldState, StepEffect, nothing, local_step, kernel_step, step_effect_in, process_after_answer, process_after_reply_to, after, step, entry_of}
use Rattle.lab_sched.specs.Stepping.{before_wait}
use Rattle.lab_sched.specs.Verdicts.{is_waiting}
use Rattle.lab_worlds.specs.Unwaiting.{GoesOn, unwaiting}
use Rattle.lab_sched.proofs.ListPlaces.{get_past}
use Rattle.lab_worlds.specs.Walked.{waiting}

-- how many calls a step is: 1 or 0
abbrev pub calls_in : ℕ → StepEffect → ℕ
calls_in p t = length (entry_of p t)

module _ (q : Process → Bool) where
  -- 1 of a process that passes, and 0 of another
  abbrev pub one : Process → ℕ
  one s = cond (q s) 1 0

  pub one_most : (s : Process) → one s ≤ 1
  one_most s = grind arith

  pub count_cons : (s : Process) (ss : List Process) → count_by q (s ∷ ss) ≡ one s + count_by q ss
  count_cons s ss = sum_by-cons one s ss

  -- how many pass where one is another
  pub count_set : (ss : List Process) (p : ℕ) (s u : Process) → slice_get ss p ≡ Some s → count_by q (set ss p u) + one s ≡ count_by q ss + one u
  count_set ss p s u e = subst (λ x. count_by q (set ss p u) + one x ≡ count_by q ss + one u) (get_or_from_slice_get ss p s s e) (sum_by-set one ss p u s (get_past ss p s e))

  pub set_most : (ss : List Process) (p : ℕ) (u : Process) → count_by q (set ss p u) ≤ count_by q ss + one u
  set_most [] p u = omega arith
  set_most (s ∷ ss) zero u = omega (arith, count_cons s ss, count_cons u ss)
  set_most (s ∷ ss) (suc p) u = omega (arith, count_cons s ss, count_cons s (set ss p u), set_most ss p u)

-- a process that has its reply doesn't wait
answered_goes : (m : Machine) (c : Call) (r : Reply) → one is_waiting (process_after_answer m c (Done r)) ≡ 0
unfolding process_after_answer
answered_goes m c r = by (next_request m)
  where
    by : (q : Request) → one is_waiting (process_after_reply_to m q r) ≡ 0
    by (Local n) = refl
    by _ = refl

-- by a step by which a process goes on, none begins to wait
pub waiting_goes : (w : WorldState) (p : ℕ) → GoesOn (step_effect_in w p) → waiting (step w p) ≤ waiting w
waiting_goes w p = by (step_effect_in w p)
  where
    by : (t : StepEffect) → GoesOn t → waiting (after w p t) ≤ waiting w
    by (local_step n) goes = let most = set_most is_waiting w.processes p (Running n) in omega (arith, most)
    by (kernel_step m c (Done r)) goes = let most = set_most is_waiting w.processes p (process_after_answer m c (Done r)) in omega (arith, most, answered_goes m c r)
    by _ goes = absurd goes

-- by another step one process begins to wait, if it is a call
pub waiting_still : (w : WorldState) (p : ℕ) → (GoesOn (step_effect_in w p) → ⊥) → waiting (step w p) ≤ waiting w + calls_in p (step_effect_in w p)
unfolding process_after_answer
waiting_still w p = by (step_effect_in w p)
  where
    by : (t : StepEffect) → (GoesOn t → ⊥) → waiting (after w p t) ≤ waiting w + calls_in p t
    by nothing none = omega arith
    by (kernel_step m c Wait) none = set_most is_waiting w.processes p (Waiting m c)
    by _ none = absurd (none tt)

none_waits : (ss : List Process) → count_by is_waiting (map before_wait ss) ≡ 0
none_waits [] = refl
none_waits (Running m ∷ ss) = let one = count_cons is_waiting (Running m) (map before_wait ss) in omega (arith, one, none_waits ss)
none_waits (Waiting m c ∷ ss) = let one = count_cons is_waiting (Running m) (map before_wait ss) in omega (arith, one, none_waits ss)
none_waits (Ended e ∷ ss) = let one = count_cons is_waiting (Ended e) (map before_wait ss) in omega (arith, one, none_waits ss)

-- where none has begun to wait, none waits
pub unwaiting_waits : (w : WorldState) → waiting (unwaiting w) ≡ 0
unwaiting_waits w = none_waits w.processes

-- one process more, which waits
pub next_waits : (ss : List Process) (p : ℕ) (s : Process) → slice_get ss p ≡ Some s → is_waiting s ≡ true → count_by is_waiting (take (p + 1) ss) ≡ count_by is_waiting (take p ss) + 1
next_waits ss p s e is = count_by_more_yes is_waiting ss p s (get_past ss p s e) (ap is_waiting (get_or_from_slice_get ss p s s e) ∙ is)

-- one more, which doesn't
pub next_other : (ss : List Process) (p : ℕ) (s : Process) → slice_get ss p ≡ Some s → is_waiting s ≡ false → count_by is_waiting (take (p + 1) ss) ≡ count_by is_waiting (take p ss)
next_other ss p s e is = count_by_more_no is_waiting ss p s (get_past ss p s e) (ap is_waiting (get_or_from_slice_get ss p s s e) ∙ is)
