-- Worlds that are alike make the same steps, to worlds that are alike.
use Rattle.std.proofs.Common.{ℕ, ◌≡◌, List, [], ◌∷◌, Option, refl, sym, ap, subst, ◌∙◌, slice_get, set, rules}
use Rattle.ipc_kernel.specs.Kernel.{KernelState}
use Rattle.ipc_kernel.specs.Alike.{IsAlike, IsConsistent}
use Rattle.ipc_store.proofs.Alikes.{alike_itself, alike_then, alike_back}
use Rattle.ipc_store.proofs.LikeAnswers.{answers_alike, stays_consistent}
use Rattle.lab_sched.specs.Worlds.{Process, Running, WorldState, StepEffect, nothing, local_step, kernel_step, step_effect, step_effect_in, process_after_answer, after, step, run, IsEffective}
use Rattle.lab_sched.specs.Execution.{AreEffective}
use Rattle.lab_sched.specs.Verdicts.{HaveEnded, AreStuck}
use Rattle.lab_sched.specs.declared.verdict.Verdict.TheVariants as verdict
use Rattle.lab_worlds.specs.Calls.{AreAlike}
use Rattle.lab_worlds.specs.Alikes.{StepsAlike, OneVerdict}

pub world_itself : (w : WorldState) → AreAlike w w
world_itself w = record { processes = refl; kernel = alike_itself w.kernel }

pub world_then : (w v u : WorldState) → AreAlike w v → AreAlike v u → AreAlike w u
world_then w v u a b = record { processes = b.processes ∙ a.processes; kernel = alike_then w.kernel v.kernel u.kernel a.kernel b.kernel }

pub world_back : (w v : WorldState) → AreAlike w v → AreAlike v w
world_back w v a = record { processes = sym a.processes; kernel = alike_back w.kernel v.kernel a.kernel }

-- kernels that are alike give a process the same step
pub effect_alike : (k j : KernelState) (p : ℕ) (o : Option Process) → IsConsistent k → IsAlike k j → step_effect j p o ≡ step_effect k p o
effect_alike k j p x s a = search (rules, answers_alike)

-- the kernels stay alike
pub kernel_alike : (w v : WorldState) (p : ℕ) (t : StepEffect) → IsConsistent w.kernel → IsAlike w.kernel v.kernel → IsAlike (after w p t).kernel (after v p t).kernel
kernel_alike w v p (kernel_step m c r) s a = (answers_alike w.kernel v.kernel p c s a).1
kernel_alike w v p _ s a = a

pub consistent_after : (w : WorldState) (p : ℕ) (t : StepEffect) → IsConsistent w.kernel → IsConsistent (after w p t).kernel
consistent_after w p (kernel_step m c r) s = stays_consistent w.kernel p c s
consistent_after w p _ s = s

pub consistent_run : (ps : List ℕ) (w : WorldState) → IsConsistent w.kernel → IsConsistent (run w ps).kernel
unfolding run
consistent_run [] w s = s
consistent_run (p ∷ ps) w s = consistent_run ps (step w p) (consistent_after w p (step_effect_in w p) s)

pub same_effect : (w v : WorldState) (p : ℕ) → IsConsistent w.kernel → AreAlike w v → step_effect_in v p ≡ step_effect_in w p
same_effect w v p s a = ap (λ ps. step_effect v.kernel p (slice_get ps p)) a.processes ∙ effect_alike w.kernel v.kernel p (slice_get w.processes p) s a.kernel

processes_after : (w v : WorldState) (p : ℕ) (t : StepEffect) → v.processes ≡ w.processes → (after v p t).processes ≡ (after w p t).processes
processes_after w v p nothing e = e
processes_after w v p (local_step n) e = ap (λ ps. set ps p (Running n)) e
processes_after w v p (kernel_step m c r) e = ap (λ ps. set ps p (process_after_answer m c r)) e

pub step_alike : (w v : WorldState) (p : ℕ) → IsConsistent w.kernel → AreAlike w v → AreAlike (step w p) (step v p)
step_alike w v p s a = subst (λ t. AreAlike (step w p) (after v p t)) (sym (same_effect w v p s a)) (record {
  processes = processes_after w v p (step_effect_in w p) a.processes;
  kernel = kernel_alike w v p (step_effect_in w p) s a.kernel;
})

pub steps_alike : StepsAlike
steps_alike w v p s a = (same_effect w v p s a, step_alike w v p s a)

pub effective_alike : (ps : List ℕ) (w v : WorldState) → IsConsistent w.kernel → AreAlike w v → AreEffective w ps → AreEffective v ps
effective_alike [] w v s a h = tt
effective_alike (p ∷ ps) w v s a h =
    (subst IsEffective (sym (same_effect w v p s a)) h.0, effective_alike ps (step w p) (step v p) (consistent_after w p (step_effect_in w p) s) (step_alike w v p s a) h.1)

pub run_alike : (ps : List ℕ) (w v : WorldState) → IsConsistent w.kernel → AreAlike w v → AreAlike (run w ps) (run v ps)
unfolding run
run_alike [] w v s a = a
run_alike (p ∷ ps) w v s a = run_alike ps (step w p) (step v p) (consistent_after w p (step_effect_in w p) s) (step_alike w v p s a)

ended_alike : (w v : WorldState) → v.processes ≡ w.processes → HaveEnded w → HaveEnded v
ended_alike w v e h p s at = h p s (ap (λ ps. slice_get ps p) (sym e) ∙ at)

-- where the same processes make the same steps
stuck_alike : (w v : WorldState) → v.processes ≡ w.processes → ((p : ℕ) → step_effect_in v p ≡ step_effect_in w p) → AreStuck w → AreStuck v
stuck_alike w v e steps h = search rules

pub one_verdict : OneVerdict
one_verdict w v verdict.Ended s a h = ended_alike w v a.processes h
one_verdict w v verdict.Stuck s a h = stuck_alike w v a.processes (λ p. same_effect w v p s a) h
one_verdict w v verdict.Open s a h =
    (λ ended. h.0 (ended_alike v w (sym a.processes) ended), λ stuck. h.1 (stuck_alike v w (sym a.processes) (λ p. sym (same_effect w v p s a)) stuck))
