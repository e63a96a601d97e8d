-- Executions: one after another, of one step, of one process's local steps, and of its calls.
use Rattle.std.proofs.Common.{ℕ, zero, suc, ◌+◌, ◌≡◌, ◌==◌, ◌++◌, List, [], ◌∷◌, Option, Some, true, false, cond, refl, sym, ap, subst, ◌∙◌, arith, length, set, slice_get, replicate, ◌≢◌, rules}
use Rattle.std.proofs.lemmas.List.{append_assoc, append-nil, set-set, replicate_more}
use Rattle.std.proofs.lemmas.Bool.{eq-eqb, eqb-true, false_from_ne_true}
use Rattle.std.proofs.Math.Numerals.{add-one}
use Rattle.lc3_machine.specs.Process.{Process as Machine}
use Rattle.ipc_kernel.specs.declared.call.Call.{Call}
use Rattle.ipc_kernel.specs.declared.call.Answer.{Answer}
use Rattle.ipc_kernel.specs.Kernel.{KernelState}
use Rattle.ipc_kernel.specs.Answer.{answer}
use Rattle.lab_sched.specs.Worlds.{Process, Running, Waiting, Ended, WorldState, moves, next_action, StepEffect, nothing, local_step, kernel_step, step_effect, step_effect_in, first_try, process_after_answer, after, step, IsEffective, entry_of, run, entries}
use Rattle.lab_sched.specs.Execution.{AreEffective, count, IsExecution}
use Rattle.lab_sched.specs.LocalRun.{AreLocal, TakesAnswer}
use Rattle.lab_sched.specs.History.{replay, IsLegal}
use Rattle.lab_sched.specs.declared.stepped.Entry.{Entry}
use Rattle.lab_sched.specs.declared.trace.TracedCall.{TracedCall}
use Rattle.lab_sched.proofs.ListPlaces.{get-set_same, get_past, set_same}
use Rattle.lab_sched.proofs.Runs.{run-append, run-none, run-one, length-run}
use Rattle.lab_sched.proofs.Histories.{replay-append, legal-append}
use Rattle.lab_sched.proofs.OwnSteps.{first_local}

pub entries-append : (w : WorldState) (xs ys : List ℕ) → entries w (xs ++ ys) ≡ entries w xs ++ entries (run w xs) ys
unfolding run entries
entries-append w [] ys = refl
entries-append w (x ∷ xs) ys =
    ap (λ es. entry_of x (step_effect_in w x) ++ es) (entries-append (step w x) xs ys) ∙ sym (append_assoc (entry_of x (step_effect_in w x)) (entries (step w x) xs) (entries (run (step w x) xs) ys))

pub effective-append : (w : WorldState) (xs ys : List ℕ) → AreEffective w xs → AreEffective (run w xs) ys → AreEffective w (xs ++ ys)
unfolding run
effective-append w [] ys h k = k
effective-append w (x ∷ xs) ys h k = (h.0, effective-append (step w x) xs ys h.1 k)

pub count-append : (p : ℕ) (xs ys : List ℕ) → count p (xs ++ ys) ≡ count p xs + count p ys
count-append p [] ys = omega arith
count-append p (x ∷ xs) ys =
    elim (x == p) as (λ b. cond b (count p (xs ++ ys) + 1) (count p (xs ++ ys)) ≡ cond b (count p xs + 1) (count p xs) + count p ys)
    [ true ↦ omega (arith, count-append p xs ys) | false ↦ count-append p xs ys ]

pub count-replicate_same : (p n : ℕ) → count p (replicate n p) ≡ n
count-replicate_same p zero = refl
count-replicate_same p (suc n) = rw (eq-eqb p p refl, count-replicate_same p n, add-one) refl

pub count-replicate_other : (p q n : ℕ) → q ≢ p → count p (replicate n q) ≡ 0
count-replicate_other p q zero ne = refl
count-replicate_other p q (suc n) ne = rw (false_from_ne_true (q == p) (λ e. ne (eqb-true q p e))) (count-replicate_other p q n ne)

pub execution_none : (w : WorldState) → IsExecution w [] w []
unfolding entries
execution_none w = record { leads = run-none w; effective = tt; entered = refl }

pub execution_append : {w v u : WorldState} {ps qs : List ℕ} {es fs : List Entry} → IsExecution w ps v es → IsExecution v qs u fs → IsExecution w (ps ++ qs) u (es ++ fs)
execution_append {w} {v} {u} {ps} {qs} {es} {fs} a b = search (rules, run-append, effective-append, entries-append)

pub execution_step : (w : WorldState) (p : ℕ) (t : StepEffect) → step_effect_in w p ≡ t → IsEffective t → IsExecution w (p ∷ []) (after w p t) (entry_of p t)
unfolding entries
execution_step w p t e h = record {
  leads = run-one w p ∙ ap (λ x. after w p x) e;
  effective = (subst IsEffective (sym e) h, tt);
  entered = append-nil (entry_of p (step_effect_in w p)) ∙ ap (λ x. entry_of p x) e;
}

pub effect_local : (w : WorldState) (p : ℕ) (m q : Machine) → slice_get w.processes p ≡ Some (Running m) → next_action m ≡ moves q → step_effect_in w p ≡ local_step q
effect_local w p m q at e = ap (λ o. step_effect w.kernel p o) at ∙ ap (λ a. first_try w.kernel p m a) e

unfoldable pub with_process : WorldState → ℕ → Process → WorldState
with_process w p u = record w { processes = set w.processes p u }

-- n local steps of a process
pub execution_local : (n : ℕ) (w : WorldState) (p : ℕ) (s u : Process) → slice_get w.processes p ≡ Some s → AreLocal n s u
    → IsExecution w (replicate n p) (with_process w p u) []
unfolding with_process
execution_local zero w p s u at h =
    let e : set w.processes p u ≡ w.processes = set_same w.processes p u (at ∙ ap (λ x. Some x) h) in
    subst (λ x. IsExecution w [] x []) (ap (λ ps. record w { processes = ps }) (sym e)) (execution_none w)
execution_local (suc n) w p (Running m) u at h =
    let opened = first_local n m u h in
    let q = opened.0 in
    let first = execution_step w p (local_step q) (effect_local w p m q at opened.1) tt in
    let v = with_process w p (Running q) in
    let rest = execution_local n v p (Running q) u (get-set_same w.processes p (Running q) (get_past w.processes p (Running m) at)) opened.2 in
    let both = execution_append first rest in
    subst (λ x. IsExecution w (p ∷ replicate n p) x []) (ap (λ ps. record w { processes = ps }) (set-set w.processes p (Running q) u)) both
execution_local (suc n) w p (Waiting m c) u at h = absurd h.1
execution_local (suc n) w p (Ended e) u at h = absurd h.1

-- the step of a process that is told an answer
effect_answered : (w : WorldState) (p : ℕ) (x y : Process) (c : Call) (a : Answer) → slice_get w.processes p ≡ Some x → TakesAnswer x c a y → a ≡ (answer w.kernel p c).0
    → (m : Machine) × (step_effect_in w p ≡ kernel_step m c a) × (process_after_answer m c a ≡ y)
effect_answered w p x y c a at h is = search rules

-- the world after a call of process p, which leaves it as y
abbrev pub called : WorldState → ℕ → Call → Process → WorldState
called w p c y = record { processes = set w.processes p y; kernel = (answer w.kernel p c).1 }

pub execution_answered : (w : WorldState) (p : ℕ) (x y : Process) (c : Call) (a : Answer) → slice_get w.processes p ≡ Some x → TakesAnswer x c a y → a ≡ (answer w.kernel p c).0
    → IsExecution w (p ∷ []) (called w p c y) (record { pid = p; call = c; answer = a } ∷ [])
execution_answered w p x y c a at h is =
    let t = effect_answered w p x y c a at h is in
    let first = execution_step w p (kernel_step t.0 c a) t.1 tt in
    subst (λ z. IsExecution w (p ∷ []) (called w p c z) (record { pid = p; call = c; answer = a } ∷ [])) t.2 first

-- the local steps before a call, and the call
pub execution_of_call : (w : WorldState) (p : ℕ) (s x y : Process) (t : TracedCall) → slice_get w.processes p ≡ Some s → AreLocal t.before s x → TakesAnswer x t.call t.answer y
    → t.answer ≡ (answer w.kernel p t.call).0
    → IsExecution w (replicate (t.before + 1) p) (called w p t.call y) (record { pid = p; call = t.call; answer = t.answer } ∷ [])
unfolding with_process
execution_of_call w p s x y t at locals h is =
    let within = get_past w.processes p s at in
    let a = execution_local t.before w p s x at locals in
    let b = execution_answered (with_process w p x) p x y t.call t.answer (get-set_same w.processes p x within) h is in
    let both = execution_append a b in
    let es = record { pid = p; call = t.call; answer = t.answer } ∷ [] in
    subst (λ ps. IsExecution w ps (called w p t.call y) es) (replicate_more t.before p)
    (subst (λ ps. IsExecution w (replicate t.before p ++ p ∷ []) (record { processes = ps; kernel = (answer w.kernel p t.call).1 }) es) (set-set w.processes p x y) both)

-- the kernel after an execution is the replay of its entries
kernel_effect : (w : WorldState) (p : ℕ) (t : StepEffect) → (after w p t).kernel ≡ replay w.kernel (entry_of p t)
kernel_effect w p nothing = refl
kernel_effect w p (local_step q) = refl
kernel_effect w p (kernel_step m c a) = refl

pub kernel_run : (w : WorldState) (ps : List ℕ) → (run w ps).kernel ≡ replay w.kernel (entries w ps)
unfolding run entries
kernel_run w [] = refl
kernel_run w (p ∷ ps) =
    kernel_run (step w p) ps ∙ ap (λ k. replay k (entries (step w p) ps)) (kernel_effect w p (step_effect_in w p))
    ∙ sym (replay-append w.kernel (entry_of p (step_effect_in w p)) (entries (step w p) ps))

pub execution_kernel : {w v : WorldState} {ps : List ℕ} {es : List Entry} → IsExecution w ps v es → v.kernel ≡ replay w.kernel es
execution_kernel {w} {v} {ps} {es} c = ap (λ (x : WorldState). x.kernel) (sym c.leads) ∙ kernel_run w ps ∙ ap (λ x. replay w.kernel x) c.entered

pub execution_length : {w v : WorldState} {ps : List ℕ} {es : List Entry} → IsExecution w ps v es → length v.processes ≡ length w.processes
execution_length {w} {v} {ps} {es} c = ap (λ (x : WorldState). length x.processes) (sym c.leads) ∙ length-run w ps

legal_effect : (k : KernelState) (p : ℕ) (o : Option Process) → IsLegal k (entry_of p (step_effect k p o))
legal_effect k p x = search rules

pub legal_run : (w : WorldState) (ps : List ℕ) → IsLegal w.kernel (entries w ps)
unfolding entries
legal_run w [] = tt
legal_run w (p ∷ ps) =
    legal-append w.kernel (entry_of p (step_effect_in w p)) (entries (step w p) ps) (legal_effect w.kernel p (slice_get w.processes p))
    (subst (λ k. IsLegal k (entries (step w p) ps)) (kernel_effect w p (step_effect_in w p)) (legal_run (step w p) ps))

pub execution_legal : {w v : WorldState} {ps : List ℕ} {es : List Entry} → IsExecution w ps v es → IsLegal w.kernel es
execution_legal {w} {v} {ps} {es} c = subst (λ x. IsLegal w.kernel x) c.entered (legal_run w ps)
