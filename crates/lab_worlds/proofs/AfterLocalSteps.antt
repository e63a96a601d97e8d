-- Processes and worlds ahead of others: by all their local steps.
use Rattle.std.proofs.Common.{ℕ, zero, suc, ◌≡◌, List, [], ◌∷◌, Option, Some, refl, sym, subst, slice_get, rules}
use Rattle.lc3_machine.specs.Process.{Process as Machine}
use Rattle.lc3_machine.proofs.Runs.{steps_append}
use Rattle.lab_sched.specs.Worlds.{Process, Running, moves, next_action}
use Rattle.lab_sched.specs.LocalRun.{AreLocal}
use Rattle.lab_sched.proofs.OwnSteps.{first_local}
use Rattle.lab_worlds.specs.Calls.{IsAtCall, IsAhead, Both}

-- a process at a call has no local step
pub none_local : (n : ℕ) (s u : Process) → IsAtCall s → AreLocal n s u → u ≡ s
none_local zero s u at h = sym h
none_local (suc n) (Running m) u at h = let asks = at.1 in let goes = h.1.1 in cc
none_local (suc n) _ u at h = absurd h.1

pub stays : (s u : Process) → IsAtCall s → IsAhead s u → u ≡ s
stays s u at h = none_local h.taken s u at h.local

-- what is ahead of a process is ahead of the process after its next local step
goes_on : (n : ℕ) (m q : Machine) (u : Process) → next_action m ≡ moves q → AreLocal n (Running m) u → IsAtCall u → IsAhead (Running q) u
goes_on zero m q u e h at = let asks = subst IsAtCall (sym h) at in let is = asks.1 in absurd (cc)
goes_on (suc n) m q u e h at =
    let first = first_local n m u h in
    let is = first.1 in
    let same : first.0 ≡ q = cc in
    record { taken = n; local = subst (λ x. AreLocal n (Running x) u) same first.2; at_call = at }

pub ahead_moves : (m q : Machine) (u : Process) → next_action m ≡ moves q → IsAhead (Running m) u → IsAhead (Running q) u
ahead_moves m q u e h = goes_on h.taken m q u e h.local h.at_call

pub ahead_of_ahead : (a b c : Option Process) → Both IsAhead a b → Both IsAhead b c → Both IsAhead a c
ahead_of_ahead x y z h i = search (rules, steps_append)

-- lists with the same elements at the same places
pub same_by_gets : {A : Type 0} (xs ys : List A) → ((i : ℕ) → slice_get xs i ≡ slice_get ys i) → xs ≡ ys
same_by_gets [] [] f = refl
same_by_gets (x ∷ xs) (y ∷ ys) f =
    let head : Some x ≡ Some y = f 0 in
    let tail = same_by_gets xs ys (λ i. f (suc i)) in
    cc
same_by_gets _ _ f = let e = f 0 in absurd (cc)

-- two values at one place
pub same_some : {A : Type 0} (x y : A) (o : Option A) → o ≡ Some x → o ≡ Some y → x ≡ y
same_some x y o a b = cc
