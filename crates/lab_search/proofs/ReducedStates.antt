-- Where rows are tried by one independent step alone: what each process comes to, and its calls with their answers, are those of rows.
use Rattle.std.proofs.Common.{ℕ, ◌≡◌, true, List, Some, sym, ap, subst, ◌∙◌, slice_get, inl, inr}
use Rattle.std.proofs.lemmas.Bool.Decides.{eqb_tells}
use Rattle.lc3_machine.specs.Process.{Process as Machine}
use Rattle.ipc_kernel.specs.Alike.{IsConsistent}
use Rattle.ipc_kernel.specs.Operands.{are_named}
use Rattle.ipc_kernel.specs.declared.call.Call.{Call}
use Rattle.ipc_kernel.specs.declared.call.Reply.{Reply}
use Rattle.ipc_kernel.specs.declared.call.Answer.TheVariants.{Done}
use Rattle.ipc_store.specs.Uses.{uses_but}
use Rattle.lab_sched.specs.Worlds.{Process, Running, Waiting, Ended, WorldState, nothing, local_step, kernel_step, step_effect_in, run}
use Rattle.lab_sched.specs.Stepping.{before_wait}
use Rattle.lab_sched.proofs.Commutes.{after_other}
use Rattle.lab_search.specs.declared.store.Store.{Store}
use Rattle.lab_worlds.specs.Calls.{IsAtCall}
use Rattle.lab_worlds.specs.Unwaiting.{GoesOn, unwaiting, AsksAgain, AskAgain}
use Rattle.lab_search.specs.Reduced.{IsSearchedByReduction}
use Rattle.lab_search.specs.Shown.{IsInRow, IsMadeInRow, ShowsProcesses}
use Rattle.lab_worlds.proofs.AlikeWorlds.{same_effect}
use Rattle.lab_worlds.proofs.EndedProcesses.{ended_run, calm_but}
use Rattle.lab_worlds.proofs.HeldAdvances.{asks_run}
use Rattle.lab_worlds.proofs.IndependentSteps.{independent}
use Rattle.lab_worlds.proofs.OnwardSteps.{AreOnward}
use Rattle.lab_worlds.proofs.UnwaitingWorlds.{unwaiting_at, same_step, StepOf, step_of, still, by_itself, by_call, by_answer}
use Rattle.lab_search.proofs.StandingWorlds.{begins_stands, standing_same, standing_effect}
use Rattle.lab_search.proofs.ReducedPaths.{Path, IsPath, by_steps, ends_calm}
use Rattle.lab_search.proofs.ReducedEnds.{onward_of}

-- a process at a call that doesn't wait yet is at it, too
pub at_call_before : (s : Process) → AsksAgain s → IsAtCall s → IsAtCall (before_wait s)
at_call_before (Running m) asks at = at
at_call_before (Waiting m c) asks at = (c, asks)
at_call_before (Ended e) asks at = tt

-- a process whose call is answered is at it
caller : (w : WorldState) (p : ℕ) (m : Machine) (c : Call) (r : Reply) → step_effect_in w p ≡ kernel_step m c (Done r) → (s : Process) × (slice_get w.processes p ≡ Some s) × IsAtCall s
caller w p m c r is = by (step_of w p)
  where
    by : StepOf w p → (s : Process) × (slice_get w.processes p ≡ Some s) × IsAtCall s
    by (still e) = let no : nothing ≡ kernel_step m c (Done r) = sym e ∙ is in absurd (cc)
    by (by_itself n q at acts e) = let no : local_step q ≡ kernel_step m c (Done r) = sym e ∙ is in absurd (cc)
    by (by_call n d a at asks told e) = (Running n, at, (d, asks))
    by (by_answer n d a at told e) = (Waiting n d, at, tt)

module _ (t : Store) (start : WorldState) (searched : IsSearchedByReduction start t) where
  -- a process that is at a call after the steps of a path is so in the world of a row
  abbrev HasStates : Path → Type 0
  HasStates c = (p : ℕ) (s : Process) → slice_get (run c.world c.steps).processes p ≡ Some s → IsAtCall s → IsInRow t p s

  states : (c : Path) → IsPath t c → HasStates c
  unfolding run
  states = by_steps t start searched HasStates (record {
    ends = λ c g like none p s at call.
        let here : slice_get c.world.processes p ≡ Some s = subst (λ ps. slice_get (run c.world ps).processes p ≡ Some s) none at in
        (c.place.at, c.place.advance, g.stands.here, ap (λ ps. slice_get ps p) like.processes ∙ here);
    fronts = λ c p g next f rest q s at call. rest q s (ap (λ (w : WorldState). slice_get w.processes q) f.leads ∙ at) call;
    passes = λ c g a f rest q s at call.
        let w = run c.world c.steps in
        elim (eqb_tells a.process q) [
          | inl same ↦
              let mine : slice_get w.processes a.process ≡ Some s = subst (λ n. slice_get w.processes n ≡ Some s) (sym same.1) at in
              let here : slice_get c.world.processes a.process ≡ Some s = sym f.process ∙ mine in
              subst (λ n. IsInRow t n s) same.1 (c.place.at, c.place.advance, g.stands.here, standing_same t c.world a.process s c.place here call g.stands)
          | inr other ↦ rest q s (ap (λ (v : WorldState). slice_get v.processes q) f.leads ∙ after_other w q a.process (step_effect_in w a.process) other.1 ∙ at) call
        ];
  })

  -- a call that is answered after the steps of a path is made so from the world of a row
  abbrev HasCalls : Path → Type 0
  HasCalls c = (p : ℕ) (m : Machine) (d : Call) (r : Reply) → step_effect_in (run c.world c.steps) p ≡ kernel_step m d (Done r) → IsMadeInRow t p (kernel_step m d (Done r))

  calls : (c : Path) → IsPath t c → HasCalls c
  unfolding run
  calls = by_steps t start searched HasCalls (record {
    ends = λ c g like none p m d r is.
        let here : step_effect_in c.world p ≡ kernel_step m d (Done r) = subst (λ ps. step_effect_in (run c.world ps) p ≡ kernel_step m d (Done r)) none is in
        (c.place.at, c.place.advance, g.stands.here, same_effect c.world c.place.advance p g.stands.consistent like ∙ here);
    fronts = λ c p g next f rest q m d r is. rest q m d r (ap (λ w. step_effect_in w q) f.leads ∙ is);
    passes = λ c g a f rest q m d r is.
        let w = run c.world c.steps in
        elim (eqb_tells a.process q) [
          | inl same ↦
              let mine : step_effect_in w a.process ≡ kernel_step m d (Done r) = subst (λ n. step_effect_in w n ≡ kernel_step m d (Done r)) (sym same.1) is in
              let here : step_effect_in c.world a.process ≡ kernel_step m d (Done r) = sym f.effect ∙ mine in
              let x = caller c.world a.process m d r here in
              subst (λ n. IsMadeInRow t n (kernel_step m d (Done r))) same.1 (c.place.at, c.place.advance, g.stands.here, standing_effect t c.world a.process x.0 c.place x.1 x.2 g.stands ∙ here)
          | inr other ↦
              let uses = uses_but a.ended searched.uses in
              let calm = calm_but a.ended searched.uses w (ended_run c.steps c.world a.ended a.have_ended) (ends_calm t start searched c g) in
              let both = independent uses w a.process q other.1 f.named calm.low f.stays (subst GoesOn (sym is) tt) (calm.keep q) in
              rest q m d r (ap (λ v. step_effect_in v q) f.leads ∙ both.second ∙ is)
        ];
  })

-- so the rows show each process
pub shows_by_reduction : (t : Store) (start : WorldState) → IsConsistent start.kernel → AskAgain start → unwaiting start ≡ start → are_named start.kernel.places ≡ true → IsSearchedByReduction start t
    → ShowsProcesses start t
shows_by_reduction t start consistent asks first named searched = record {
  states = λ ps p s at call.
      let w = run start ps in
      let h = path ps in
      states t start searched h.0 h.1 p (before_wait s) (ap (λ (v : WorldState). slice_get v.processes p) h.2 ∙ unwaiting_at w p (Some s) at) (at_call_before s (asks_run ps start asks p s at) call);
  calls = λ ps p m c r is.
      let w = run start ps in
      let h = path ps in
      calls t start searched h.0 h.1 p m c r (ap (λ v. step_effect_in v p) h.2 ∙ same_step w p (asks_run ps start asks) (subst GoesOn (sym is) tt) ∙ is);
}
  where
    -- a path from the start to the world after whatever steps, but for who waits
    path : (ps : List ℕ) → (c : Path) × IsPath t c × (run c.world c.steps ≡ unwaiting (run start ps))
    path ps =
        let h = onward_of ps start asks in
        let initial = begins_stands t start searched.begins consistent in (
          record { world = start; place = initial.0; steps = h.steps },
          record { stands = initial.1; named = named; onward = subst (λ v. AreOnward v h.steps) first h.onward },
          subst (λ v. run v h.steps ≡ unwaiting (run start ps)) first h.leads,
        )
