-- Processes none of whose local steps is a refused call, step by step.
use Rattle.std.proofs.Common.{ℕ, zero, suc, ◌≡◌, false, Option, Some, sym, ap, subst, ◌∙◌}
use Rattle.lc3_machine.specs.Process.{Process as Machine}
use Rattle.ipc_kernel.specs.Kernel.{KernelState}
use Rattle.ipc_traps.specs.Asked.{Request}
use Rattle.lab_sched.specs.declared.stepped.Stepped.{Stepped}
use Rattle.lab_sched.specs.Worlds.{Process, Running, local_step, step_effect, first_try}
use Rattle.lab_sched.specs.Held.{asked_by, local_told, StepResult, step_of, step_result, HasStepped}
use Rattle.lab_sched.specs.LocalRun.{IsLocalStep, AreLocal}
use Rattle.lab_conditions.specs.declared.never.Refusal.{Refusal}
use Rattle.lab_conditions.specs.Refusals.{is_refused}
use Rattle.lab_worlds.specs.Calls.{IsAtCall}
use Rattle.lab_worlds.specs.declared.errors.Errors.{Errors}
use Rattle.lab_worlds.specs.Errors.{HasErrorAmong, AreLocalAmong, IsAnsweredToCall}
use Rattle.lab_explore.specs.Private.Judged.{IsQuiet, IsCalm}

-- a process without a local step
pub quiet_still : (r : Refusal) (s : Process) → ((v : Process) → IsLocalStep s v → ⊥) → IsQuiet r s
quiet_still r s none zero u v same goes = absurd (none v (subst (λ x. IsLocalStep x v) (sym same) goes))
quiet_still r s none (suc n) u v h goes = absurd (none h.0 h.1)

-- one after its local step
pub quiet_on : (r : Refusal) (s v : Process) → IsLocalStep s v → IsQuiet r s → IsQuiet r v
quiet_on r s v first quiet n u w h goes = quiet (suc n) u w (v, first, h) goes

-- the effect of a local step
local_effect : (k : KernelState) (p : ℕ) (s v : Process) → IsLocalStep s v → (n : Machine) × (step_effect k p (Some s) ≡ local_step n) × (v ≡ Running n)
local_effect k p (Running m) v goes = (goes.0, ap (first_try k p m) goes.1, goes.2)
local_effect k p _ v goes = absurd goes

-- what is told of it
said : (k j : KernelState) (p : ℕ) (s u v : Process) (told : Stepped) → HasStepped k p s j u told → IsLocalStep s v → (u ≡ v) × (told ≡ local_told (asked_by (Some s)))
said k j p s u v told h goes =
    let n = local_effect k p s v goes in
    let is = h ∙ ap {B = StepResult} (step_result k p s) n.1 in
    (ap (λ (x : StepResult). x.process) is ∙ sym n.2, ap (λ (x : StepResult). x.told) is)

-- before a step that isn't refused a process is as quiet as after it
pub stepped_back : (r : Refusal) (k j : KernelState) (p : ℕ) (s u : Process) (told : Stepped) → HasStepped k p s j u told → is_refused r told ≡ false → IsQuiet r u → IsQuiet r s
stepped_back r k j p s u told h not quiet zero x v same goes =
    let is = said k j p s u v told h (subst (λ y. IsLocalStep y v) (sym same) goes) in
    subst (λ y. is_refused r (local_told (asked_by (Some y))) ≡ false) same (subst (λ y. is_refused r y ≡ false) is.1 not)
stepped_back r k j p s u told h not quiet (suc n) x v first goes = quiet n x v (subst (λ y. AreLocal n y x) (sym (said k j p s u first.0 told h first.1).0) first.2) goes

-- before a step that isn't local it is quiet
pub stepped_still : (r : Refusal) (k j : KernelState) (p : ℕ) (s u : Process) (told : Stepped) → HasStepped k p s j u told → ((q : Option Request) → told ≡ local_told q → ⊥) → IsQuiet r s
stepped_still r k j p s u told h other = quiet_still r s (λ v goes. other (asked_by (Some s)) (said k j p s u v told h goes).1)

-- a step that isn't refused, behind which it is quiet
pub calm_by : (r : Refusal) (k j : KernelState) (p : ℕ) (s u : Process) (told : Stepped) → HasStepped k p s j u told → is_refused r told ≡ false → IsQuiet r u → IsCalm r k p s
calm_by r k j p s u told h not quiet = record {
  step = subst (λ y. is_refused r y ≡ false) (ap (λ (x : StepResult). x.told) h) not;
  after = subst (IsQuiet r) (ap (λ (x : StepResult). x.process) h) quiet;
}

-- there is one next local step
one_local : (s u v : Process) → IsLocalStep s u → IsLocalStep s v → u ≡ v
one_local (Running m) u v h i =
    let first = h.1 in
    let second = i.1 in
    let same : h.0 ≡ i.0 = cc in
    h.2 ∙ ap Running same ∙ sym i.2
one_local _ u v h i = absurd h

-- a process at a call has none
none_at_call : (s v : Process) → IsAtCall s → IsLocalStep s v → ⊥
none_at_call (Running m) v at goes = let asks = at.1 in let is = goes.1 in absurd (cc)
none_at_call _ v at goes = goes

-- before a local step that isn't refused a process is as quiet as after it
quiet_before : (r : Refusal) (s z : Process) → is_refused r (local_told (asked_by (Some s))) ≡ false → IsLocalStep s z → IsQuiet r z → IsQuiet r s
quiet_before r s z not step quiet zero x v same goes = subst (λ y. is_refused r (local_told (asked_by (Some y))) ≡ false) same not
quiet_before r s z not step quiet (suc n) x v first goes = quiet n x v (subst (λ y. AreLocal n y x) (one_local s first.0 z first.1 step) first.2) goes

-- a process is quiet whose local steps are refused with no error that is meant
pub quiet_among : (r : Refusal) (es : Errors) (n : ℕ) (s u : Process) → ((told : Stepped) → HasErrorAmong es told → is_refused r told ≡ false) → AreLocalAmong es n s u → IsAtCall u → IsQuiet r s
quiet_among r es zero s u not same at = quiet_still r s (λ v goes. none_at_call s v (subst IsAtCall (sym same) at) goes)
quiet_among r es (suc n) s u not h at = quiet_before r s h.0 (not (local_told (asked_by (Some s))) h.1.1) h.1.0 (quiet_among r es n h.0 u not h.2 at)

-- a step is calm that is answered, as its local steps are, with no error that is meant
pub calm_among : (r : Refusal) (es : Errors) (n : ℕ) (k : KernelState) (p : ℕ) (s : Process) → ((told : Stepped) → HasErrorAmong es told → is_refused r told ≡ false) → IsAnsweredToCall k p s n es → IsCalm r k p s
calm_among r es n k p s not h = record {
  step = not (step_of k p s).told h.1.step;
  after = quiet_among r es n (step_of k p s).process h.0 not h.1.after h.2;
}
