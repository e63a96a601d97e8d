-- Local steps of a process: the first of them, those that its machine takes by itself, and traces that grow by them or by a call.
use Rattle.std.proofs.Common.{ℕ, suc, ◌≡◌, refl, ap, subst, ◌+◌, ◌++◌, List, [], ◌∷◌, arith, rules}
use Rattle.lc3_machine.specs.Process.{Process as Machine}
use Rattle.lc3_machine.specs.Steps.{HasRun, IsOwnStep, AreOwnSteps}
use Rattle.lc3_machine.specs.declared.machine.Progress.{Progress}
use Rattle.lc3_machine.proofs.Runs.{steps_map, steps_append}
use Rattle.ipc_traps.proofs.Laws.{asked_local}
use Rattle.lab_sched.specs.Worlds.{Process, Running, moves, next_action, action_for}
use Rattle.lab_sched.specs.LocalRun.{IsLocalStep, AreLocal, TakesAnswer, Leads, weight}
use Rattle.ipc_kernel.specs.declared.call.Call.{Call}
use Rattle.ipc_kernel.specs.declared.call.Answer.{Answer}
use Rattle.lab_sched.specs.declared.trace.TracedCall.{TracedCall}

-- the first of some local steps of a running process, and the others
pub first_local : (n : ℕ) (m : Machine) (u : Process) → AreLocal (suc n) (Running m) u → (q : Machine) × (next_action m ≡ moves q) × AreLocal n (Running q) u
first_local n m u h = (h.1.0, h.1.1, subst (λ x. AreLocal n x u) h.1.2 h.2)

-- a step that the machine takes by itself is local
own_local : (m q : Machine) → IsOwnStep m q → IsLocalStep (Running m) (Running q)
unfolding next_action
own_local m q is = (q, ap (λ r. action_for m r) (asked_local m q is), refl)

-- a run of the machine has done its steps, whatever stopped it
pub ran_own : (most n : ℕ) (m q : Machine) (p : Progress) → HasRun m most p q n → AreOwnSteps n m q
ran_own most n m q x h = search rules

-- they are local steps of the process
pub ran_local : (most n : ℕ) (m q : Machine) (p : Progress) → HasRun m most p q n → AreLocal n (Running m) (Running q)
ran_local most n m q p h = steps_map IsOwnStep IsLocalStep Running own_local n m q (ran_own most n m q p h)

-- k local steps more
pub leads_locals : (ts : List TracedCall) (s : Process) (n k : ℕ) (x u : Process) → Leads s ts n x → AreLocal k x u → Leads s ts (n + k) u
leads_locals [] s n k x u h i = steps_append IsLocalStep n k s x u h i
leads_locals (t ∷ ts) s n k x u h i = (h.0, h.1, h.2, h.3, leads_locals ts h.1 n k x u h.4 i)

pub leads_told : (ts : List TracedCall) (s : Process) (n : ℕ) (x y : Process) (c : Call) (a : Answer)
    → Leads s ts n x → TakesAnswer x c a y → Leads s (ts ++ record { before = n; call = c; answer = a } ∷ []) 0 y
leads_told [] s n x y c a h t = (x, y, h, t, refl)
leads_told (u ∷ ts) s n x y c a h t = (h.0, h.1, h.2, h.3, leads_told ts h.1 n x y c a h.4 t)

pub weight-append : (xs ys : List TracedCall) → weight (xs ++ ys) ≡ weight xs + weight ys
weight-append [] ys = omega arith
weight-append (x ∷ xs) ys = omega (arith, weight-append xs ys)
