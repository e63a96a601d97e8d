-- A call that is refused after any steps is refused from the start on, or from the world of a row on.
use Rattle.std.proofs.Common.{ℕ, ◌≡◌, true, false, IsTrue, List, [], ◌∷◌, Some, refl, sym, ap, subst, ◌∙◌, slice_get}
use Rattle.lc3_machine.specs.Process.{Process as Machine}
use Rattle.ipc_kernel.specs.declared.call.Call.{Call}
use Rattle.ipc_kernel.specs.declared.call.Reply.{Reply}
use Rattle.ipc_kernel.specs.declared.call.Answer.TheVariants.{Done, Wait}
use Rattle.lab_sched.specs.declared.stepped.Stepped.TheVariants as stepped
use Rattle.lab_sched.specs.Worlds.{Process, Running, Waiting, WorldState, StepEffect, nothing, local_step, kernel_step, step_effect, step_effect_in, process_made, processes_with, process_after, process_after_answer, step, run, IsEffective}
use Rattle.lab_sched.specs.Held.{asked_by, local_told, stepped_of}
use Rattle.lab_sched.specs.LocalRun.{IsLocalStep}
use Rattle.lab_sched.proofs.ListPlaces.{get-set_same, get_past}
use Rattle.lab_sched.proofs.Commutes.{after_other}
use Rattle.lab_conditions.specs.declared.never.Refusal.{Refusal}
use Rattle.lab_conditions.specs.declared.never.Never.TheVariants as never
use Rattle.lab_conditions.specs.Refusals.{is_process, is_refused, Refuses}
use Rattle.lab_search.specs.declared.store.Store.{Store}
use Rattle.lab_search.specs.Shown.{IsMadeInRow, ShowsProcesses}
use Rattle.lab_worlds.specs.Reached.{NeverBreaks}
use Rattle.lab_worlds.proofs.Pushes.{at_or_other}
use Rattle.lab_worlds.proofs.AfterLocalSteps.{same_some}
use Rattle.lab_worlds.proofs.UnwaitingWorlds.{effect_at, StepOf, step_of, still, by_itself, by_call, by_answer}
use Rattle.lab_explore.specs.Private.Judged.{IsQuiet, IsCalmAt, BeginsQuietly, NoneRefuses}
use Rattle.lab_explore.proofs.MetWorlds.{stepper}
use Rattle.lab_explore.proofs.QuietSteps.{quiet_still, quiet_on}

-- the steps from each row on are calm
abbrev AreCalm : Refusal → Store → Type 0
AreCalm r t = (i q : ℕ) → IsCalmAt r t i q

-- no local step of a process is refused, from a world on
abbrev AreQuiet : Refusal → WorldState → Type 0
AreQuiet r w = (p : ℕ) → BeginsQuietly r w p

-- each call that is answered in a world is made so from the world of a row
abbrev HasCalls : Store → WorldState → Type 0
HasCalls t w = (p : ℕ) (m : Machine) (c : Call) (a : Reply) → step_effect_in w p ≡ kernel_step m c (Done a) → IsMadeInRow t p (kernel_step m c (Done a))

-- a call that is answered isn't refused, and none of the local steps after it is
answered : (r : Refusal) (t : Store) (w : WorldState) (p : ℕ) (m : Machine) (c : Call) (a : Reply) → HasCalls t w → AreCalm r t → IsTrue (is_process r.process p)
    → step_effect_in w p ≡ kernel_step m c (Done a) → (is_refused r (stepped.Called a) ≡ false) × IsQuiet r (process_after_answer m c (Done a))
answered r t w p m c a made calm meant is =
    let row = made p m c a is in
    let v = row.1 in
    let s = stepper v p (subst IsEffective (sym row.3) tt) in
    let here : step_effect v.kernel p (Some s.0) ≡ kernel_step m c (Done a) = sym (effect_at v p (Some s.0) s.1) ∙ row.3 in
    let found = calm row.0 p meant v s.0 row.2 s.1 in (
      subst (λ e. is_refused r (stepped_of (asked_by (Some s.0)) e) ≡ false) here found.step,
      subst (λ e. IsQuiet r (process_after s.0 e)) here found.after,
    )

-- a process whose step is local
stepper_local : (w : WorldState) (p : ℕ) (n : Machine) → step_effect_in w p ≡ local_step n → (s : Process) × (slice_get w.processes p ≡ Some s) × IsLocalStep s (Running n)
stepper_local w p n is = by (step_of w p)
  where
    by : StepOf w p → (s : Process) × (slice_get w.processes p ≡ Some s) × IsLocalStep s (Running n)
    by (by_itself m q at acts e) =
        let moved : local_step q ≡ local_step n = sym e ∙ is in
        let same : n ≡ q = cc in
        (Running m, at, (q, acts, ap Running same))
    by (still e) = let no : nothing ≡ local_step n = sym e ∙ is in absurd (cc)
    by (by_call m c a at asks told e) = let no : kernel_step m c a ≡ local_step n = sym e ∙ is in absurd (cc)
    by (by_answer m c r at told e) = let no : kernel_step m c (Done r) ≡ local_step n = sym e ∙ is in absurd (cc)

-- one that begins to wait
quiet_waiting : (r : Refusal) (m : Machine) (c : Call) → IsQuiet r (process_after_answer m c Wait)
unfolding process_after_answer
quiet_waiting r m c = quiet_still r (Waiting m c) (λ v goes. goes)

-- the process of a step is quiet behind it
stepped_quiet : (r : Refusal) (t : Store) (w : WorldState) (p : ℕ) → HasCalls t w → AreCalm r t → AreQuiet r w → BeginsQuietly r (step w p) p
stepped_quiet r t w p made calm quiet meant s at = by (step_effect_in w p) refl
  where
    becomes : (e : StepEffect) (y : Process) → step_effect_in w p ≡ e → IsEffective e → process_made e ≡ Some y → IsQuiet r y → IsQuiet r s
    becomes e y is effective makes here =
        let x = stepper w p (subst IsEffective (sym is) effective) in
        let now = ap (λ t. slice_get (processes_with w.processes p (process_made t)) p) is ∙ ap (λ o. slice_get (processes_with w.processes p o) p) makes
        ∙ get-set_same w.processes p y (get_past w.processes p x.0 x.1) in
        subst (IsQuiet r) (same_some y s (slice_get (step w p).processes p) now at) here

    by : (e : StepEffect) → step_effect_in w p ≡ e → IsQuiet r s
    by nothing is = quiet p meant s (sym (ap (λ t. slice_get (processes_with w.processes p (process_made t)) p) is) ∙ at)
    by (local_step n) is =
        let x = stepper_local w p n is in
        becomes (local_step n) (Running n) is tt refl (quiet_on r x.0 (Running n) x.2 (quiet p meant x.0 x.1))
    by (kernel_step m c Wait) is = becomes (kernel_step m c Wait) (process_after_answer m c Wait) is tt refl (quiet_waiting r m c)
    by (kernel_step m c (Done a)) is = becomes (kernel_step m c (Done a)) (process_after_answer m c (Done a)) is tt refl (answered r t w p m c a made calm meant is).1

-- all processes are
quiet_after : (r : Refusal) (t : Store) (w : WorldState) (p : ℕ) → HasCalls t w → AreCalm r t → AreQuiet r w → AreQuiet r (step w p)
quiet_after r t w p made calm quiet q =
    at_or_other (BeginsQuietly r (step w p)) p q (stepped_quiet r t w p made calm quiet) (λ other meant s at. quiet q meant s (sym (after_other w q p (step_effect_in w p) other) ∙ at))

quiet_run : (r : Refusal) (t : Store) → AreCalm r t → (w : WorldState) → ((ps : List ℕ) → HasCalls t (run w ps)) → AreQuiet r w → (ps : List ℕ) → AreQuiet r (run w ps)
unfolding run
quiet_run r t calm w made quiet [] = quiet
quiet_run r t calm w made quiet (p ∷ ps) = quiet_run r t calm (step w p) (λ qs. made (p ∷ qs)) (quiet_after r t w p (made []) calm quiet) ps

-- where all are, no step is a call that is refused
none_refused : (r : Refusal) (t : Store) (w : WorldState) (p : ℕ) → HasCalls t w → AreCalm r t → AreQuiet r w → Refuses r w p → ⊥
none_refused r t w p made calm quiet h = by (step_effect_in w p) refl
  where
    no : (e : StepEffect) → step_effect_in w p ≡ e → is_refused r (stepped_of (asked_by (slice_get w.processes p)) e) ≡ false → ⊥
    no e is not =
        let yes : is_refused r (stepped_of (asked_by (slice_get w.processes p)) e) ≡ true = subst (λ x. is_refused r (stepped_of (asked_by (slice_get w.processes p)) x) ≡ true) is h.1 in
        absurd (cc)

    by : (e : StepEffect) → step_effect_in w p ≡ e → ⊥
    by nothing is = no nothing is refl
    by (local_step n) is =
        let x = stepper_local w p n is in
        no (local_step n) is (subst (λ o. is_refused r (local_told (asked_by o)) ≡ false) (sym x.1) (quiet p h.0 x.0 x.1 0 x.0 (Running n) refl x.2))
    by (kernel_step m c Wait) is = no (kernel_step m c Wait) is refl
    by (kernel_step m c (Done a)) is = no (kernel_step m c (Done a)) is (answered r t w p m c a made calm h.0 is).0

-- where no call is refused from the start on and from no row of a search that shows each process, none is
pub never_refuses : (r : Refusal) (start : WorldState) (t : Store) → ShowsProcesses start t → NoneRefuses r start t → NeverBreaks start (never.Refused r)
never_refuses r start t shows none ps p h = none_refused r t (run start ps) p (shows.calls ps) none.rows (quiet_run r t none.rows start shows.calls none.begins ps) h
