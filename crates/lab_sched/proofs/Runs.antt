-- Runs of worlds: what lists of steps do one after another.
use Rattle.std.proofs.Common.{ℕ, zero, suc, false, Option, slice_get, ◌+◌, ◌≡◌, ◌++◌, List, [], ◌∷◌, refl, sym, ap, ◌∙◌, length, replicate, rules}
use Rattle.std.proofs.lemmas.List.{length-set, replicate-append-replicate}
use Rattle.lab_sched.specs.Worlds.{Running, WorldState, StepEffect, nothing, local_step, kernel_step, step_effect_in, process_after_answer, after, step, run}
use Rattle.ipc_kernel.specs.declared.call.Answer.TheVariants.{Done, Wait}
use Rattle.lab_sched.specs.Held.{asked_by, local_told, stepped_of, told_in}
use Rattle.lab_sched.specs.Private.Moved.{has_moved}
use Rattle.ipc_traps.specs.Asked.{Request}
use Rattle.lab_sched.specs.declared.stepped.Stepped.{Stepped}
use Rattle.lab_sched.specs.declared.stepped.Stepped.TheVariants as stepped

pub run-append : (w : WorldState) (xs ys : List ℕ) → run w (xs ++ ys) ≡ run (run w xs) ys
unfolding run
run-append w [] ys = refl
run-append w (x ∷ xs) ys = run-append (step w x) xs ys

pub run-none : (w : WorldState) → run w [] ≡ w
unfolding run
run-none w = refl

pub run-one : (w : WorldState) (p : ℕ) → run w (p ∷ []) ≡ step w p
unfolding run
run-one w p = refl

-- how many processes there are stays
length-after : (w : WorldState) (p : ℕ) (t : StepEffect) → length (after w p t).processes ≡ length w.processes
length-after w p nothing = refl
length-after w p (local_step m) = length-set w.processes p (Running m)
length-after w p (kernel_step m c a) = length-set w.processes p (process_after_answer m c a)

pub length-run : (w : WorldState) (ps : List ℕ) → length (run w ps).processes ≡ length w.processes
unfolding run
length-run w [] = refl
length-run w (p ∷ ps) = length-run (step w p) ps ∙ length-after w p (step_effect_in w p)

-- steps of the same process in two parts
pub run_on : (w v u : WorldState) (a b c p : ℕ) → v ≡ run w (replicate a p) → u ≡ run v (replicate b p) → c ≡ a + b → u ≡ run w (replicate c p)
run_on w v u a b c p v-is u-is parts =
    u-is ∙ ap (λ x. run x (replicate b p)) v-is ∙ sym (run-append w (replicate a p) (replicate b p))
    ∙ ap (run w) (replicate-append-replicate a b p ∙ ap (λ n. replicate n p) (sym parts))

-- where the step of a process does nothing, so do n of them
run_rests : (n : ℕ) (w : WorldState) (p : ℕ) → step_effect_in w p ≡ nothing → run w (replicate n p) ≡ w
unfolding run
run_rests zero w p rests = refl
run_rests (suc n) w p rests =
    let same : step w p ≡ w = ap (λ t. after w p t) rests in
    ap (λ v. run v (replicate n p)) same ∙ run_rests n w p rests

-- only of a step without effect it is told that there was none
local_told_some : (request : Option Request) → local_told request ≡ stepped.Same → ⊥
local_told_some x e = search rules

pub told_nothing : (request : Option Request) (t : StepEffect) → stepped_of request t ≡ stepped.Same → t ≡ nothing
told_nothing request nothing e = refl
told_nothing request (local_step n) e = absurd (local_told_some request e)
told_nothing request (kernel_step m c (Done r)) e = absurd cc
told_nothing request (kernel_step m c Wait) e = absurd cc

-- of a step without effect that is told
pub nothing_told : (w : WorldState) (p : ℕ) → step_effect_in w p ≡ nothing → told_in w p ≡ stepped.Same
nothing_told w p is = ap (λ t. stepped_of (asked_by (slice_get w.processes p)) t) is

unmoved : (told : Stepped) → false ≡ has_moved told → told ≡ stepped.Same
unmoved x e = search rules

-- a step without effect stands for k of them
pub run_unmoved : (w : WorldState) (p k : ℕ) → false ≡ has_moved (told_in w p) → step w p ≡ run w (replicate k p)
run_unmoved w p k is = search (rules, told_nothing, unmoved, run_rests)
