-- Steps that are added to a report, and to what processes have left.
use Rattle.std.proofs.Common.{ℕ, ◌+◌, ◌-◌, ◌≡◌, ◌<◌, ◌≤◌, ◌++◌, List, [], ◌∷◌, refl, sym, ap, subst, ◌∙◌, arith, length, set, get_or, inl, inr, slice_get, ◌≢◌, Option, Some, replicate, rules}
use Rattle.std.proofs.lemmas.List.{append-nil, append_assoc, replicate-append-replicate, length-set, get_or-set_same, get_or-set_other}
use Rattle.std.proofs.lemmas.Bool.Decides.{eqb_tells}
use Rattle.std.specs.List.{sum}
use Rattle.std.proofs.lemmas.List.Sums.{sum_by-set}
use Rattle.std.specs.Int.{bit_at}
use Rattle.lc3_machine.specs.Process.{Process as Machine}
use Rattle.ipc_kernel.specs.declared.call.Call.{Call}
use Rattle.ipc_kernel.specs.declared.call.Answer.{Answer}
use Rattle.ipc_kernel.specs.Kernel.{KernelState}
use Rattle.ipc_kernel.specs.Answer.{answer}
use Rattle.lab_sched.specs.declared.process.Process.{Process as Kept}
use Rattle.lab_sched.specs.declared.stepped.Entry.{Entry}
use Rattle.lab_sched.specs.declared.calling.Next.{Next}
use Rattle.lab_sched.specs.declared.calling.Next.TheVariants as next
use Rattle.lab_sched.specs.Worlds.{Process, WorldState, kernel_step, step_effect_in, step, run, IsEffective}
use Rattle.ipc_traps.specs.Asked.{Request}
use Rattle.lab_sched.specs.declared.stepped.Stepped.{Stepped}
use Rattle.lab_sched.specs.Held.{process_view, stepped_of, told_in}
use Rattle.lab_sched.specs.Verdicts.{HasEnded}
use Rattle.lab_sched.specs.Execution.{IsExecution}
use Rattle.lab_sched.specs.Settled.{Report, report, IsAdded, IsSettled, HasStopped, IsShort}
use Rattle.lab_sched.specs.Settling.{AsksFor, IsNext}
use Rattle.lab_sched.specs.Private.Settling.{AsksIn, IsNextIn, IsTaken, answer_told}
use Rattle.lab_sched.proofs.Runs.{run-none}
use Rattle.lab_sched.proofs.Executions.{execution_none, execution_append, execution_step, execution_length, execution_local, count-append, count-replicate_same, count-replicate_other}
use Rattle.lab_sched.proofs.WorldLemmas.{IsAt, kept_world, put_process, same_world, seen}
use Rattle.std.proofs.lemmas.Grind.{common_steps}

pub added_none : (r : Report) → IsAdded r [] r
added_none r = record { told = []; execution = execution_none r.world; steps = sym (append-nil r.steps); entries = sym (append-nil r.entries) }

pub added-append : {r q t : Report} {ps qs : List ℕ} → IsAdded r ps q → IsAdded q qs t → IsAdded r (ps ++ qs) t
added-append {r} {q} {t} {ps} {qs} a b = record {
  told = a.told ++ b.told;
  execution = execution_append a.execution b.execution;
  steps = b.steps ∙ ap (λ xs. xs ++ qs) a.steps ∙ append_assoc r.steps ps qs;
  entries = b.entries ∙ ap (λ xs. xs ++ b.told) a.entries ∙ append_assoc r.entries a.told b.told;
}

pub added_length : {r q : Report} {ps : List ℕ} → IsAdded r ps q → length q.world.processes ≡ length r.world.processes
added_length a = execution_length a.execution

pub added_more : {r q t : Report} (n k p : ℕ) → IsAdded r (replicate n p) q → IsAdded q (replicate k p) t → IsAdded r (replicate (n + k) p) t
added_more {r} {q} {t} n k p a b = subst (λ ps. IsAdded r ps t) (replicate-append-replicate n k p) (added-append a b)

pub settled_none : (r : Report) (left : List ℕ) → IsSettled r r left left
settled_none r left = record { taken = []; added = added_none r; len = refl; counted = λ p below. omega arith }

-- k more steps of process i
pub settled_more : {r q t : Report} {left rest : List ℕ} (i k : ℕ) → IsSettled r q left rest → IsAdded q (replicate k i) t → k ≤ get_or rest i 0 → i < length rest
    → IsSettled r t left (set rest i (get_or rest i 0 - k))
settled_more {r} {q} {t} {left} {rest} i k is added fits within = record {
  taken = is.taken ++ replicate k i;
  added = added-append is.added added;
  len = length-set rest i (get_or rest i 0 - k) ∙ is.len;
  counted = λ p below. elim (eqb_tells i p) [
    | inl same ↦
        let old = is.counted i (omega (arith, same.1)) in
        let counts = count-append i is.taken (replicate k i) in
        let mine = count-replicate_same i k in
        let rests = get_or-set_same rest i (get_or rest i 0 - k) 0 within in
        rw (← same.1) (omega (arith, old, counts, mine, rests, fits))
    | inr other ↦
        let old = is.counted p below in
        let counts = count-append p is.taken (replicate k i) in
        let none = count-replicate_other p i k other.1 in
        let rests = get_or-set_other rest i p (get_or rest i 0 - k) 0 (λ e. other.1 (sym e)) in
        omega (arith, old, counts, none, rests)
  ];
}

pub settled-append : {r q t : Report} {left rest last : List ℕ} → IsSettled r q left rest → IsSettled q t rest last → IsSettled r t left last
settled-append {r} {q} {t} {left} {rest} {last} a b = grind (arith, common_steps, added-append, count-append)

-- one bit more: of a process that has some left and could go on

pub stopped_more : (w : WorldState) (left : List ℕ) (bits bits' i : ℕ) → bit_at bits' i ≡ 1 → ((p : ℕ) → p ≢ i → bit_at bits' p ≡ bit_at bits p)
    → ((p : ℕ) → p < i → HasStopped w left bits p) → (p : ℕ) → p < i + 1 → HasStopped w left bits' p
stopped_more w left bits bits' i marked others stopped p below = search rules

pub short_more : (w : WorldState) (left : List ℕ) (bits bits' i : ℕ) → ((p : ℕ) → p ≢ i → bit_at bits' p ≡ bit_at bits p) → IsShort w left i
    → ((p : ℕ) → bit_at bits p ≡ 1 → IsShort w left p) → (p : ℕ) → bit_at bits' p ≡ 1 → IsShort w left p
short_more w left bits bits' i others here old p is_set = search rules

pub sum_less : (left : List ℕ) (i k : ℕ) → i < length left → k ≤ get_or left i 0 → sum (set left i (get_or left i 0 - k)) + k ≡ sum left
sum_less left i k within fits = omega (arith, sum_by-set (λ x. x) left i (get_or left i 0 - k) 0 within)

pub sum_at : (left : List ℕ) (i : ℕ) → i < length left → get_or left i 0 ≤ sum left
sum_at left i within = omega (arith, sum_less left i (get_or left i 0) within (omega arith))

pub not_ended : (w : WorldState) (p : ℕ) (s : Process) → IsEffective (step_effect_in w p) → slice_get w.processes p ≡ Some s → HasEnded s → ⊥
not_ended w p x h at is = search rules

-- what a process does next, over the whole world

pub next_in : {ps : List Kept} {k : KernelState} {w : WorldState} {p : ℕ} {s : Kept} → IsAt ps k w p s → (most : ℕ) (n : Next) (u : Kept) → IsNext (process_view s) most n (process_view u)
    → IsNextIn w p most n (kept_world (set ps p u) k)
next_in {ps} {k} {w} {p} {s} at most (next.Moved n) u h = (h.1, subst (λ x. IsExecution w (replicate n p) x []) (sym (put_process at u)) (execution_local n w p (process_view s) (process_view u) (seen at) h.2))
next_in {ps} {k} {w} {p} {s} at most (next.Asks c) u h = (same_world at k u h.0 refl, (process_view s, seen at, h.1))
next_in {ps} {k} {w} {p} {s} at most next.Ended u h = same_world at k u h.0 refl
next_in {ps} {k} {w} {p} {s} at most next.Short u h = same_world at k u h refl

-- steps lead there
pub next_led : (w v : WorldState) (p most : ℕ) (n : Next) → IsNextIn w p most n v → (ns : List ℕ) × (v ≡ run w ns)
next_led w v p most x h = search (rules, run-none)

-- steps that were taken with their entries

pub taken_none : (w v : WorldState) (es fs : List Entry) (p : ℕ) → v ≡ w → fs ≡ es → IsTaken w es (replicate 0 p) v fs
taken_none w v es fs p w-is es-is = record {
  told = [];
  execution = subst (λ x. IsExecution w [] x []) (sym w-is) (execution_none w);
  entries = es-is ∙ sym (append-nil es);
}

-- the step of a process that asks for a call, or waits for it
effect_asked : (w : WorldState) (p : ℕ) (c : Call) (s : Process) → slice_get w.processes p ≡ Some s → AsksFor s c → IsEffective (step_effect_in w p)
    → (m : Machine) × (step_effect_in w p ≡ kernel_step m c (answer w.kernel p c).0)
effect_asked w p c x at asks h = search rules

answer_stepped : (q : Option Request) (m : Machine) (c : Call) (a : Answer) → answer_told (stepped_of q (kernel_step m c a)) ≡ a
answer_stepped q m c x = search rules

-- a call is taken, and its answer is what is told of its step
pub taken_call : (w x v : WorldState) (es fs : List Entry) (p : ℕ) (c : Call) (stepped : Stepped) (a : Answer) → IsEffective (step_effect_in w p) → (x ≡ w) × AsksIn w p c → stepped ≡ told_in x p
    → a ≡ answer_told stepped → v ≡ step x p → fs ≡ es ++ record { pid = p; call = c; answer = a } ∷ [] → IsTaken w es (replicate 1 p) v fs
taken_call w x v es fs p c stepped a h asked told-is a-told v-is fs-is = search (rules, effect_asked, answer_stepped, execution_step)

pub added_taken : {w v : WorldState} {es fs : List Entry} {ps ss ts : List ℕ} → IsTaken w es ps v fs → ts ≡ ss ++ ps → IsAdded (report w ss es) ps (report v ts fs)
added_taken taken steps = record { told = taken.told; execution = taken.execution; steps = steps; entries = taken.entries }
