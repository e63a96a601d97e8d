-- Where rows are tried by one independent step alone: the worlds at rest to which any steps lead, and how many steps there can be.
use Rattle.std.proofs.Common.{ℕ, ◌+◌, ◌*◌, ◌≤◌, ◌≡◌, arith, true, List, [], ◌∷◌, refl, sym, ap, subst, ◌∙◌, length, inl, inr}
use Rattle.ipc_kernel.specs.Alike.{IsConsistent}
use Rattle.ipc_kernel.specs.Operands.{are_named}
use Rattle.lab_sched.specs.Worlds.{WorldState, step_effect_in, step, run, entries}
use Rattle.lab_sched.specs.Execution.{AreEffective}
use Rattle.lab_search.specs.declared.store.Store.{Store}
use Rattle.lab_worlds.specs.Calls.{AreAlike}
use Rattle.lab_worlds.specs.Closed.{AreAtRest}
use Rattle.lab_worlds.specs.Unwaiting.{GoesOn, NoneGoesOn, unwaiting, AskAgain}
use Rattle.lab_states.specs.Depths.{depth_of, AreDepths}
use Rattle.lab_worlds.specs.Walked.{waiting}
use Rattle.lab_search.specs.Reduced.{IsSearchedByReduction}
use Rattle.lab_worlds.proofs.FewestCalls.{calls_in, waiting_goes, waiting_still}
use Rattle.lab_worlds.proofs.AlikeWorlds.{same_effect, consistent_run}
use Rattle.lab_worlds.proofs.UnwaitingWorlds.{tells, same_step, none_goes, still_unwaiting, goes_unwaiting, asks_on}
use Rattle.lab_worlds.proofs.HeldAdvances.{asks_run, rests_on}
use Rattle.lab_search.proofs.FirstWorlds.{AreAtDepth}
use Rattle.lab_search.proofs.StandingWorlds.{running, running_goes, running_waits, begins_stands, begins_first}
use Rattle.lab_worlds.proofs.OnwardSteps.{AreOnward, calls_along, calls_more}
use Rattle.lab_search.proofs.ReducedPaths.{IsPath, arrives}

-- the steps among others by which processes go on, from the world in which none has begun to wait
pub record AreOnwardOf (w : WorldState) (ps : List ℕ) : Type 0 where
  pub steps : List ℕ
  pub onward : AreOnward (unwaiting w) steps
  pub leads : run (unwaiting w) steps ≡ unwaiting (run w ps)
  pub calls : calls_along (unwaiting w) steps + waiting (run w ps) ≤ waiting w + calls_along w ps
  pub long : AreEffective w ps → length ps ≤ 2 * length steps + running w

pub onward_of : (ps : List ℕ) (w : WorldState) → AskAgain w → AreOnwardOf w ps
unfolding run entries
onward_of [] w asks = record { steps = []; onward = tt; leads = refl; calls = omega arith; long = λ h. omega arith }
onward_of (p ∷ ps) w asks = elim (tells (step_effect_in w p)) [
  | inl goes ↦ more goes (onward_of ps (step w p) (asks_on w p asks))
  | inr none ↦ same none (onward_of ps (step w p) (asks_on w p asks))
]
  where
    more : GoesOn (step_effect_in w p) → AreOnwardOf (step w p) ps → AreOnwardOf w (p ∷ ps)
    more goes h =
        let same = same_step w p asks goes in
        let next = goes_unwaiting w p asks goes in
        record {
          steps = p ∷ h.steps;
          onward = (subst GoesOn (sym same) goes, subst (λ v. AreOnward v h.steps) next h.onward);
          leads = subst (λ v. run v h.steps ≡ unwaiting (run (step w p) ps)) next h.leads;
          calls =
              let these = h.calls in
              let one = calls_more (unwaiting w) p h.steps in
              let effect = ap (calls_in p) same in
              let there = ap (λ v. calls_along v h.steps) next in
              let all = calls_more w p ps in
              let fewer = waiting_goes w p goes in
              omega (arith, these, one, effect, there, all, fewer);
          long = λ e. let rest = h.long e.1 in let most = running_goes w p in omega (arith, rest, most);
        }

    same : (GoesOn (step_effect_in w p) → ⊥) → AreOnwardOf (step w p) ps → AreOnwardOf w (p ∷ ps)
    same none h =
        let still = still_unwaiting w p none in
        record {
          steps = h.steps;
          onward = subst (λ v. AreOnward v h.steps) still h.onward;
          leads = subst (λ v. run v h.steps ≡ unwaiting (run (step w p) ps)) still h.leads;
          calls =
              let these = h.calls in
              let there = ap (λ v. calls_along v h.steps) still in
              let all = calls_more w p ps in
              let more = waiting_still w p none in
              omega (arith, these, there, all, more);
          long = λ e. let rest = h.long e.1 in let fewer = running_waits w p e.0 none in omega (arith, rest, fewer);
        }

-- a row has the world at rest that any steps lead to, but for who waits; its depth, and one for each process that waits, are no more
-- than the calls among the steps
pub reaches_end_by_reduction : (t : Store) (start : WorldState) (depths : List ℕ) → IsConsistent start.kernel → AskAgain start → unwaiting start ≡ start
    → are_named start.kernel.places ≡ true → IsSearchedByReduction start t → AreDepths depths t.edges → (ps : List ℕ) → AreAtRest (run start ps)
    → (v : WorldState) × (n : ℕ) × AreAtDepth t depths n v × NoneGoesOn v × AreAlike (unwaiting (run start ps)) v × (n + waiting (run start ps) ≤ waiting start + length (entries start ps))
reaches_end_by_reduction t start depths consistent asks first named searched deep ps rest =
    let w = run start ps in
    let good = consistent_run ps start consistent in
    let h = onward_of ps start asks in
    let initial = begins_stands t start searched.begins consistent in
    let onward = subst (λ v. AreOnward v h.steps) first h.onward in
    let leads : run start h.steps ≡ unwaiting w = subst (λ v. run v h.steps ≡ unwaiting w) first h.leads in
    let none : NoneGoesOn (unwaiting w) = λ p. none_goes w p (asks_run ps start asks) (rests_on w p rest) in
    let least : depth_of depths initial.0.at ≡ 0 = ap (depth_of depths) (begins_first t start searched.begins consistent) ∙ deep.first in
    let path : IsPath t (record { world = start; place = initial.0; steps = h.steps }) = record { stands = initial.1; named = named; onward = onward } in
    let end = arrives t start searched depths deep (record { world = start; place = initial.0; steps = h.steps }) path 0 (subst NoneGoesOn (sym leads) none) (omega (arith, least)) in
    let there : AreAlike (unwaiting w) end.0 = subst (λ v. AreAlike v end.0) leads end.3 in
    let calls = h.calls in
    let from = ap (λ v. calls_along v h.steps) first in
    (end.0, calls_along start h.steps, (end.1, end.2, let most = end.4 in omega (arith, most)), λ p goes. none p (subst GoesOn (same_effect (unwaiting w) end.0 p good there) goes), there, omega (arith, calls, from))
