-- Independent steps commute with those of other processes that keep to the uses.
use Rattle.std.proofs.Common.{ℕ, ◌≡◌, ◌≢◌, true, false, List, Option, Some, None, refl, sym, ap, subst, ◌∙◌, slice_get, inl, inr, rules}
use Rattle.std.proofs.lemmas.Bool.Decides.{eqb_tells}
use Rattle.std.proofs.lemmas.List.{set_comm}
use Rattle.ipc_kernel.specs.Kernel.{KernelState}
use Rattle.ipc_kernel.specs.declared.call.Call.{Call}
use Rattle.ipc_kernel.specs.declared.call.Answer.{Answer}
use Rattle.ipc_kernel.specs.declared.call.Answer.TheVariants.{Done, Wait}
use Rattle.ipc_kernel.specs.Answer.{answer}
use Rattle.ipc_kernel.specs.Operands.{are_named}
use Rattle.ipc_store.specs.declared.uses.ProcessUse.{ProcessUse}
use Rattle.ipc_store.specs.Uses.{IsWithin, are_low}
use Rattle.ipc_store.proofs.CommutingCalls.{stay_named}
use Rattle.ipc_store.proofs.UnnoticedLaws.{unnoticed_calls_commute, unnoticed_calls_harmless}
use Rattle.lab_sched.specs.Worlds.{Process, Running, Waiting, Ended, WorldState, NextAction, moves, calls, next_action, StepEffect, nothing, local_step, kernel_step, step_effect, step_effect_in, process_made, processes_with, kernel_after, after, step, first_try, retry}
use Rattle.lab_sched.proofs.Commutes.{after_other}
use Rattle.lab_conditions.specs.Conditions.{call_next, call_of}
use Rattle.lab_worlds.specs.Unwaiting.{GoesOn}
use Rattle.lab_worlds.specs.Independent.{KeepsTo, IsCalm, IsIndependent}

-- a call that a step makes has the same answer over another kernel
abbrev pub SameAnswer : KernelState → KernelState → ℕ → StepEffect → Type 0
SameAnswer k j p (kernel_step m c a) = (answer j p c).0 ≡ (answer k p c).0
SameAnswer k j p _ = Unit {0}

-- so the step is the same
pub same_effect_over : (k j : KernelState) (p : ℕ) (o : Option Process) → GoesOn (step_effect k p o) → SameAnswer k j p (step_effect k p o) → step_effect j p o ≡ step_effect k p o
same_effect_over k j p x goes same = search rules

-- what a step makes of a list of processes
made_comm : (ps : List Process) (p q : ℕ) (a b : Option Process) → p ≢ q → processes_with (processes_with ps p a) q b ≡ processes_with (processes_with ps q b) p a
made_comm ps p q x y ne = search (rules, set_comm)

-- the call of a step is within the uses
abbrev pub IsStepWithin : List ProcessUse → KernelState → ℕ → StepEffect → Type 0
IsStepWithin uses k p (kernel_step m c a) = IsWithin uses k p c
IsStepWithin uses k p _ = Unit {0}

-- the call of a step has its answer
abbrev IsAnswered : KernelState → ℕ → StepEffect → Type 0
IsAnswered k p (kernel_step m c a) = (answer k p c).0 ≡ a
IsAnswered k p _ = Unit {0}

step_answered : (k : KernelState) (p : ℕ) (o : Option Process) → IsAnswered k p (step_effect k p o)
step_answered k p None = tt
step_answered k p (Some (Running m)) = by (next_action m)
  where
    by : (x : NextAction) → IsAnswered k p (first_try k p m x)
    by (moves n) = tt
    by (calls c) = refl
step_answered k p (Some (Waiting m c)) = by (answer k p c).0 refl
  where
    by : (a : Answer) → (answer k p c).0 ≡ a → IsAnswered k p (retry m c a)
    by Wait e = tt
    by (Done r) e = e
step_answered k p (Some (Ended e)) = tt

-- what a process is about to do is within the uses
abbrev KeepsIn : List ProcessUse → KernelState → ℕ → Option Process → Type 0
KeepsIn uses k p o = (s : Process) (c : Call) → o ≡ Some s → call_of s ≡ Some c → IsWithin uses k p c

-- so its step is
pub step_within : (uses : List ProcessUse) (k : KernelState) (p : ℕ) (o : Option Process) → KeepsIn uses k p o → IsStepWithin uses k p (step_effect k p o)
step_within uses k p None h = tt
step_within uses k p (Some (Running m)) h = by (next_action m) (λ c. h (Running m) c refl)
  where
    by : (x : NextAction) → ((c : Call) → call_next x ≡ Some c → IsWithin uses k p c) → IsStepWithin uses k p (first_try k p m x)
    by (moves n) e = tt
    by (calls c) e = e c refl
step_within uses k p (Some (Waiting m c)) h = by (answer k p c).0
  where
    by : (a : Answer) → IsStepWithin uses k p (retry m c a)
    by Wait = tt
    by (Done r) = h (Waiting m c) c refl refl
step_within uses k p (Some (Ended e)) h = tt

-- and if it goes on and its step is, what it is about to do is
keeps_by_step : (uses : List ProcessUse) (k : KernelState) (p : ℕ) (o : Option Process) → GoesOn (step_effect k p o) → IsStepWithin uses k p (step_effect k p o) → KeepsIn uses k p o
keeps_by_step uses k p None goes h = absurd goes
keeps_by_step uses k p (Some (Running m)) goes h = λ s c at call. let same : Running m ≡ s = cc in by (next_action m) h c (ap call_of same ∙ call)
  where
    by : (x : NextAction) → IsStepWithin uses k p (first_try k p m x) → (c : Call) → call_next x ≡ Some c → IsWithin uses k p c
    by (moves n) h c e = absurd (cc)
    by (calls d) h c e = let same : d ≡ c = cc in subst (IsWithin uses k p) same h
keeps_by_step uses k p (Some (Waiting m d)) goes h = λ s c at call.
    let same : Waiting m d ≡ s = cc in
    let there : Some d ≡ Some c = ap call_of same ∙ call in
    let is : d ≡ c = cc in
    subst (IsWithin uses k p) is (by (answer k p d).0 goes h)
  where
    by : (a : Answer) → GoesOn (retry m d a) → IsStepWithin uses k p (retry m d a) → IsWithin uses k p d
    by Wait goes h = absurd goes
    by (Done r) goes h = h
keeps_by_step uses k p (Some (Ended e)) goes h = absurd goes

-- an independent step goes on
pub independent_goes : (uses : List ProcessUse) (k : KernelState) (p : ℕ) (t : StepEffect) → IsIndependent uses k p t → GoesOn t
independent_goes uses k p x h = search rules

-- two steps of two processes, the first of which is independent
pub record AreIndependent (uses : List ProcessUse) (w : WorldState) (p q : ℕ) : Type 0 where
  pub second : step_effect_in (step w p) q ≡ step_effect_in w q
  pub first : step_effect_in (step w q) p ≡ step_effect_in w p
  pub world : step (step w p) q ≡ step (step w q) p
  pub stays : IsIndependent uses (step w q).kernel p (step_effect_in w p)
  pub keeps : KeepsTo uses w p → KeepsTo uses (step w q) p

-- what both do to the kernel
record AreApart (uses : List ProcessUse) (k : KernelState) (p q : ℕ) (t x : StepEffect) : Type 0 where
  second : SameAnswer k (kernel_after k p t) q x
  first : SameAnswer k (kernel_after k q x) p t
  kernel : kernel_after (kernel_after k p t) q x ≡ kernel_after (kernel_after k q x) p t
  stays : IsIndependent uses (kernel_after k q x) p t
  within : IsStepWithin uses k p t → IsStepWithin uses (kernel_after k q x) p t

no_wait : (a b : Answer) (m : _) (c : Call) → b ≡ a → GoesOn (kernel_step m c a) → b ≡ Wait → ⊥
no_wait Wait b m c e goes w = absurd goes
no_wait (Done r) b m c e goes w = let no : Done r ≡ Wait = sym e ∙ w in absurd (cc)

apart : (uses : List ProcessUse) (k : KernelState) (p q : ℕ) (t x : StepEffect) → p ≢ q → are_named k.places ≡ true → are_low k.places ≡ true → IsIndependent uses k p t → GoesOn x
    → IsStepWithin uses k q x → IsAnswered k q x → AreApart uses k p q t x
apart uses k p q nothing x ne named low own goes keeps is = absurd own
apart uses k p q (kernel_step m c Wait) x ne named low own goes keeps is = absurd own
apart uses k p q t nothing ne named low own goes keeps is = absurd goes
apart uses k p q (local_step n) (local_step l) ne named low own goes keeps is = record { second = tt; first = tt; kernel = refl; stays = tt; within = λ w. tt }
apart uses k p q (local_step n) (kernel_step m c a) ne named low own goes keeps is = record { second = refl; first = tt; kernel = refl; stays = tt; within = λ w. tt }
apart uses k p q (kernel_step m c (Done r)) (local_step l) ne named low own goes keeps is = record { second = tt; first = refl; kernel = refl; stays = own; within = λ w. w }
apart uses k p q (kernel_step m c (Done r)) (kernel_step n d a) ne named low own goes keeps is =
    let h = unnoticed_calls_commute uses k p q c d ne named low own keeps (no_wait a (answer k q d).0 n d is goes) in
    record { second = h.second; first = h.first; kernel = h.kernel; stays = h.own; within = h.within }

-- an independent step of one process, and another by which another goes on that keeps to the uses
pub independent : (uses : List ProcessUse) (w : WorldState) (p q : ℕ) → p ≢ q → are_named w.kernel.places ≡ true → are_low w.kernel.places ≡ true → IsIndependent uses w.kernel p (step_effect_in w p)
    → GoesOn (step_effect_in w q) → KeepsTo uses w q → AreIndependent uses w p q
independent uses w p q ne named low own goes keeps = record { second = second; first = first; world = world; stays = h.stays; keeps = still }
  where
    k : KernelState
    k = w.kernel

    t : StepEffect
    t = step_effect_in w p

    x : StepEffect
    x = step_effect_in w q

    h : AreApart uses k p q t x
    h = apart uses k p q t x ne named low own goes (step_within uses k q (slice_get w.processes q) keeps) (step_answered k q (slice_get w.processes q))

    second : step_effect_in (step w p) q ≡ x
    second =
        ap (λ o. step_effect (kernel_after k p t) q o) (after_other w q p t ne)
        ∙ same_effect_over k (kernel_after k p t) q (slice_get w.processes q) goes h.second

    first : step_effect_in (step w q) p ≡ t
    first =
        ap (λ o. step_effect (kernel_after k q x) p o) (after_other w p q x (λ e. ne (sym e)))
        ∙ same_effect_over k (kernel_after k q x) p (slice_get w.processes p) (independent_goes uses k p t own) h.first

    one : WorldState
    one = after (after w p t) q x

    other : WorldState
    other = after (after w q x) p t

    both : one ≡ other
    both =
        ap {B = WorldState} (λ ps. record { processes = ps; kernel = one.kernel }) (made_comm w.processes p q (process_made t) (process_made x) ne)
        ∙ ap {B = WorldState} (λ j. record { processes = other.processes; kernel = j }) h.kernel

    world : step (step w p) q ≡ step (step w q) p
    world = ap (λ e. after (step w p) q e) second ∙ both ∙ sym (ap (λ e. after (step w q) p e) first)

    still : KeepsTo uses w p → KeepsTo uses (step w q) p
    still mine = keeps_by_step uses (step w q).kernel p (slice_get (step w q).processes p) (subst GoesOn (sym first) (independent_goes uses k p t own))
        (subst (IsStepWithin uses (step w q).kernel p) (sym first) (h.within (step_within uses k p (slice_get w.processes p) mine)))

-- each object has a name still, after a step of a process that takes none away
pub named_after : (uses : List ProcessUse) (w : WorldState) (p : ℕ) → are_named w.kernel.places ≡ true → KeepsTo uses w p → are_named (step w p).kernel.places ≡ true
named_after uses w p named keeps = by (step_effect_in w p) (step_within uses w.kernel p (slice_get w.processes p) keeps)
  where
    by : (t : StepEffect) → IsStepWithin uses w.kernel p t → are_named (kernel_after w.kernel p t).places ≡ true
    by nothing h = named
    by (local_step n) h = named
    by (kernel_step m c a) h = stay_named w.kernel p c named h.keeps

-- and after an independent one
pub named_alone : (uses : List ProcessUse) (w : WorldState) (p : ℕ) → are_named w.kernel.places ≡ true → IsIndependent uses w.kernel p (step_effect_in w p) → are_named (step w p).kernel.places ≡ true
named_alone uses w p named own = by (step_effect_in w p) own
  where
    by : (t : StepEffect) → IsIndependent uses w.kernel p t → are_named (kernel_after w.kernel p t).places ≡ true
    by nothing own = absurd own
    by (local_step n) own = named
    by (kernel_step m c Wait) own = absurd own
    by (kernel_step m c (Done r)) own = stay_named w.kernel p c named (unnoticed_calls_harmless uses w.kernel p c named own).keeps

-- what is calm after an independent step was so before it
pub calm_before : (uses : List ProcessUse) (w : WorldState) (p : ℕ) → are_named w.kernel.places ≡ true → IsIndependent uses w.kernel p (step_effect_in w p) → KeepsTo uses w p → IsCalm uses (step w p) → IsCalm uses w
calm_before uses w p named own mine calm = record { keep = keep; low = low (step_effect_in w p) own calm.low }
  where
    within : (t : StepEffect) → IsIndependent uses w.kernel p t → (q : ℕ) (c : Call) → p ≢ q → IsWithin uses (kernel_after w.kernel p t) q c → IsWithin uses w.kernel q c
    within nothing own q c ne h = absurd own
    within (local_step n) own q c ne h = h
    within (kernel_step m d Wait) own q c ne h = absurd own
    within (kernel_step m d (Done r)) own q c ne h = (unnoticed_calls_harmless uses w.kernel p d named own).within q c ne h

    low : (t : StepEffect) → IsIndependent uses w.kernel p t → are_low (kernel_after w.kernel p t).places ≡ true → are_low w.kernel.places ≡ true
    low nothing own h = absurd own
    low (local_step n) own h = h
    low (kernel_step m d Wait) own h = absurd own
    low (kernel_step m d (Done r)) own h = (unnoticed_calls_harmless uses w.kernel p d named own).low h

    keep : (q : ℕ) → KeepsTo uses w q
    keep q = elim (eqb_tells p q) [
      | inl same ↦ subst (KeepsTo uses w) same.1 mine
      | inr other ↦ (λ s c at call. within (step_effect_in w p) own q c other.1 (calm.keep q s c (after_other w q p (step_effect_in w p) other.1 ∙ at) call))
    ]
