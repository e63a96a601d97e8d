-- Where rows are tried by one independent step alone: what can be taken from where a world stands.
use Rattle.std.proofs.Common.{ℕ, zero, suc, ◌+◌, ◌-◌, ◌<◌, ◌≤◌, ◌≡◌, arith, true, List, [], ◌∷◌, Option, Some, None, refl, sym, ap, subst, ◌∙◌, length, slice_get, inl, inr, ◌⊎◌}
use Rattle.lc3_machine.specs.Process.{Process as Machine}
use Rattle.ipc_kernel.specs.Kernel.{KernelState}
use Rattle.ipc_kernel.specs.declared.call.Answer.TheVariants.{Done}
use Rattle.ipc_kernel.specs.Alike.{IsAlike, IsConsistent}
use Rattle.lab_sched.specs.Worlds.{Process, Running, WorldState, moves, next_action, StepEffect, kernel_step, step_effect, step_effect_in, step}
use Rattle.lab_sched.specs.LocalRun.{AreLocal}
use Rattle.lab_sched.proofs.ListPlaces.{get_past}
use Rattle.lab_sched.proofs.Executions.{effect_local}
use Rattle.lab_sched.proofs.OwnSteps.{first_local}
use Rattle.lab_search.specs.declared.store.Store.{Store}
use Rattle.lab_worlds.specs.Calls.{AreAlike, IsAtCall}
use Rattle.lab_worlds.specs.Unwaiting.{GoesOn}
use Rattle.lab_states.specs.Depths.{depth_of, IsNear, AreDepths}
use Rattle.lab_search.specs.Stored.{HasEdge, IsExpanded}
use Rattle.ipc_kernel.specs.declared.call.Call.TheVariants.{Exit}
use Rattle.ipc_kernel.specs.Operands.{are_named}
use Rattle.ipc_store.specs.declared.uses.ProcessUse.{ProcessUse}
use Rattle.ipc_store.proofs.CommutingCalls.{own_alike}
use Rattle.ipc_store.proofs.UnnoticedLaws.{uses_alike}
use Rattle.lab_conditions.specs.Conditions.{call_of, call_next}
use Rattle.ipc_store.specs.Uses.{uses_but}
use Rattle.lab_worlds.specs.Independent.{KeepsTo, IsCalm, IsIndependent, HaveEnded}
use Rattle.lab_search.specs.Reduced.{HasAmpleStep, IsSearchedByReduction}
use Rattle.lab_worlds.proofs.Pushes.{all_at}
use Rattle.lab_worlds.proofs.FewestCalls.{calls_in}
use Rattle.lab_search.proofs.FirstWorlds.{at_unique, edge_at}
use Rattle.lab_worlds.proofs.AfterLocalSteps.{same_by_gets, same_some}
use Rattle.lab_worlds.proofs.UnwaitingWorlds.{StepOf, step_of, still, by_itself, by_call, by_answer}
use Rattle.lab_worlds.proofs.AlikeWorlds.{same_effect}
use Rattle.lab_worlds.proofs.IndependentSteps.{independent_goes}
use Rattle.lab_worlds.proofs.EndedProcesses.{none_ended}
use Rattle.lab_search.proofs.StandingWorlds.{Place, Stands, StandsAfter, GoesNearer, GoesAlong, TakesAt, measure, nearer_falls, along_falls, both_there, local_stands, along_stands}

-- local steps and rows that are left from a place on
abbrev pub left : Store → Place → ℕ
left t s = measure (λ i. length t.rows - i) s

-- a process that goes on is there
goes_there : (w : WorldState) (p : ℕ) → GoesOn (step_effect_in w p) → (x : Process) × (slice_get w.processes p ≡ Some x)
goes_there w p goes = by (slice_get w.processes p) refl
  where
    by : (o : Option Process) → slice_get w.processes p ≡ o → (x : Process) × (slice_get w.processes p ≡ Some x)
    by None e = absurd (subst (λ o. GoesOn (step_effect w.kernel p o)) e goes)
    by (Some x) e = (x, e)

-- a step of a process at a call by which it goes on is a call
one_call : (w : WorldState) (p : ℕ) (x : Process) → slice_get w.processes p ≡ Some x → IsAtCall x → GoesOn (step_effect_in w p) → calls_in p (step_effect_in w p) ≡ 1
one_call w p x a at goes = by (step_of w p)
  where
    by : StepOf w p → calls_in p (step_effect_in w p) ≡ 1
    by (still e) = absurd (subst GoesOn e goes)
    by (by_itself m q b acts e) =
        let asks = (subst IsAtCall (same_some x (Running m) (slice_get w.processes p) a b) at).1 in
        absurd (cc)
    by (by_call m c r b asks is e) = ap (calls_in p) e
    by (by_answer m c r b is e) = ap (calls_in p) e

-- where the world stands after a step of process p, which leads to a row that is no deeper than its calls tell
pub record StandsNext (t : Store) (w : WorldState) (p : ℕ) (s : Place) : Type 0 where
  pub after : StandsAfter t w p s
  pub deep : (depths : List ℕ) → AreDepths depths t.edges → depth_of depths after.0.at ≤ depth_of depths s.at + calls_in p (step_effect_in w p)

-- a step of a process, independent of those that haven't ended, after which less is left
pub record TakesAlone (uses : List ProcessUse) (t : Store) (w : WorldState) (s : Place) : Type 0 where
  pub process : ℕ
  pub ended : List ℕ
  pub have_ended : HaveEnded w ended
  pub independent : IsIndependent (uses_but ended uses) w.kernel process (step_effect_in w process)
  pub keeps : KeepsTo uses w process
  pub next : StandsNext t w process s
  pub less : left t next.after.0 < left t s

-- each step, where no process has local steps left
pub record TakesAny (t : Store) (w : WorldState) (s : Place) : Type 0 where
  pub alike : AreAlike w s.advance
  pub each : (p : ℕ) → GoesOn (step_effect_in w p) → StandsNext t w p s

-- the first of some numbers that isn't 0, if there is one
first_some : (ks : List ℕ) → ((p : ℕ) × (j : ℕ) × (slice_get ks p ≡ Some (suc j))) ⊎ ((p k : ℕ) → slice_get ks p ≡ Some k → k ≡ 0)
first_some [] = inr (λ p k e. absurd (cc))
first_some (suc j ∷ ks) = inl (0, j, refl)
first_some (zero ∷ ks) = elim (first_some ks) [
  | inl h ↦ inl (suc h.0, h.1, h.2)
  | inr h ↦ inr (λ p k e. rest p k e h)
]
  where
    rest : (p k : ℕ) → slice_get (zero ∷ ks) p ≡ Some k → ((p k : ℕ) → slice_get ks p ≡ Some k → k ≡ 0) → k ≡ 0
    rest zero k e h = cc
    rest (suc p) k e h = h p k e

-- a process with a local step left
local_left : (j : ℕ) (b c : Option Process) → TakesAt (Some (suc j)) b c → (m : Machine) × (q : Machine) × (b ≡ Some (Running m)) × (next_action m ≡ moves q)
local_left j (Some (Running m)) (Some u) h = let first = first_local j m u h.0 in (m, first.0, refl, first.1)
local_left j (Some s) (Some u) h = absurd h.0.1
local_left j _ _ h = absurd h

-- one with none
none_left : (a : Option ℕ) (b c : Option Process) → ((k : ℕ) → a ≡ Some k → k ≡ 0) → TakesAt a b c → c ≡ b
none_left None None None z h = refl
none_left (Some k) (Some s) (Some u) z h = let same : AreLocal 0 s u = subst (λ n. AreLocal n s u) (z k refl) h.0 in ap (λ x. Some x) (sym same)
none_left _ _ _ z h = absurd h

-- and it is at its call
at_call_left : (a : Option ℕ) (b c : Option Process) (x : Process) → c ≡ b → b ≡ Some x → TakesAt a b c → IsAtCall x
at_call_left a b c x e f h =
    let there = both_there a b c x f h in
    let some : Some there.1 ≡ Some x = sym there.3 ∙ e ∙ f in
    let same : there.1 ≡ x = cc in
    subst IsAtCall same there.5

-- after a local step
nearer_next : (t : Store) (w : WorldState) (p : ℕ) (s : Place) → (h : (u : Place) × Stands t (step w p) u × GoesNearer s u p) → StandsNext t w p s
nearer_next t w p s h = record {
  after = (h.0, h.1, inl h.2);
  deep = λ depths deep. let same = ap (depth_of depths) h.2.3 in omega (arith, same);
}

-- after a call
along_next : (t : Store) (w : WorldState) (p : ℕ) (s : Place) → calls_in p (step_effect_in w p) ≡ 1 → (u : Place) → Stands t (step w p) u → GoesAlong t s u p → StandsNext t w p s
along_next t w p s one u stands h = record {
  after = (u, stands, inr h);
  deep = λ depths deep.
      let near : depth_of depths h.1.to ≤ depth_of depths h.1.from + 1 = all_at (IsNear depths) t.edges h.0 h.1 deep.near h.3 in
      let from = ap (depth_of depths) h.4 in
      let to = ap (depth_of depths) h.5 in
      omega (arith, near, from, to, one);
}

-- in kernels that are alike the same steps are independent
independent_alike : (uses : List ProcessUse) (k j : KernelState) (p : ℕ) (t : StepEffect) → IsConsistent k → IsAlike k j → IsIndependent uses j p t → IsIndependent uses k p t
independent_alike uses k j p (kernel_step m d (Done r)) c a h = sym (uses_alike uses k j p d c a).own ∙ h
independent_alike uses k j p _ c a h = h

-- and worlds that are alike are calm, if one is
pub calm_alike : (uses : List ProcessUse) (w v : WorldState) → IsConsistent w.kernel → AreAlike w v → IsCalm uses v → IsCalm uses w
calm_alike uses w v consistent alike calm = record {
  keep = λ p s c at call. (uses_alike uses w.kernel v.kernel p c consistent alike.kernel).within (calm.keep p s c (ap (λ ps. slice_get ps p) alike.processes ∙ at) call);
  low = (uses_alike uses w.kernel v.kernel 0 Exit consistent alike.kernel).low calm.low;
}

-- a process before a local step calls nothing
local_keeps : (uses : List ProcessUse) (w : WorldState) (p : ℕ) (m q : Machine) → slice_get w.processes p ≡ Some (Running m) → next_action m ≡ moves q → KeepsTo uses w p
local_keeps uses w p m q here acts s c at call =
    let both : Some (Running m) ≡ Some s = sym here ∙ at in
    let same : Running m ≡ s = cc in
    let none : None ≡ Some c = sym (ap call_next acts) ∙ ap call_of same ∙ call in
    absurd (cc)

module _ (t : Store) (start : WorldState) (searched : IsSearchedByReduction start t) where
  -- what can be taken where a world stands
  pub options : (w : WorldState) (s : Place) → Stands t w s → are_named w.kernel.places ≡ true → TakesAlone searched.uses t w s ⊎ TakesAny t w s
  unfolding nearer_next along_next
  options w s stands named = elim (first_some s.taken) [
    | inl h ↦ inl (near h.0 h.1 h.2)
    | inr h ↦ at_calls h
  ]
    where
      near : (p j : ℕ) → slice_get s.taken p ≡ Some (suc j) → TakesAlone searched.uses t w s
      near p j e =
          let here = subst (λ a. TakesAt a (slice_get w.processes p) (slice_get s.advance.processes p)) e (stands.processes p) in
          let found = local_left j (slice_get w.processes p) (slice_get s.advance.processes p) here in
          let next = local_stands t w p found.0 found.1 s found.2 found.3 stands in
          record {
            process = p;
            ended = [];
            have_ended = none_ended w;
            independent = subst (IsIndependent (uses_but [] searched.uses) w.kernel p) (sym (effect_local w p found.0 found.1 found.2 found.3)) tt;
            keeps = local_keeps searched.uses w p found.0 found.1 found.2 found.3;
            next = nearer_next t w p s next;
            less = nearer_falls (λ i. length t.rows - i) s next.0 p next.2;
          }

      at_calls : ((p k : ℕ) → slice_get s.taken p ≡ Some k → k ≡ 0) → TakesAlone searched.uses t w s ⊎ TakesAny t w s
      at_calls none = by (searched.expanded_in s.at within)
        where
          within : s.at < length t.rows
          within = get_past t.rows s.at stands.here.0 stands.here.1

          same : (p : ℕ) → slice_get s.advance.processes p ≡ slice_get w.processes p
          same p = none_left (slice_get s.taken p) (slice_get w.processes p) (slice_get s.advance.processes p) (none p) (stands.processes p)

          world : AreAlike w s.advance
          world = record { processes = same_by_gets s.advance.processes w.processes same; kernel = stands.kernel }

          effect : (p : ℕ) → step_effect_in s.advance p ≡ step_effect_in w p
          effect p = same_effect w s.advance p stands.consistent world

          at_call : (p : ℕ) (x : Process) → slice_get w.processes p ≡ Some x → IsAtCall x
          at_call p x a = at_call_left (slice_get s.taken p) (slice_get w.processes p) (slice_get s.advance.processes p) x (same p) a (stands.processes p)

          along : (p : ℕ) → GoesOn (step_effect_in w p) → (edge : HasEdge t s.at s.advance p)
              → (x : Process) × (slice_get w.processes p ≡ Some x) × ((u : Place) × Stands t (step w p) u × GoesAlong t s u p × (u.at ≡ edge.1.to))
          along p goes edge =
              let x = goes_there w p goes in
              (x.0, x.1, along_stands t w p x.0 s x.1 (at_call p x.0 x.1) stands edge)

          next_by : (p : ℕ) → (goes : GoesOn (step_effect_in w p)) → (edge : HasEdge t s.at s.advance p) → StandsNext t w p s
          next_by p goes edge =
              let h = along p goes edge in
              along_next t w p s (one_call w p h.0 h.1 (at_call p h.0 h.1) goes) h.2.0 h.2.1 h.2.2

          by : IsExpanded t s.at ⊎ HasAmpleStep searched.uses t s.at → TakesAlone searched.uses t w s ⊎ TakesAny t w s
          by (inl done) = inr (record { alike = world; each = λ p goes. next_by p goes (edge_at t s.at p s.advance done stands.here (subst GoesOn (sym (effect p)) goes)) })
          by (inr (v, at, p, ps, have_ended, own, edge, later)) = by_one (at_unique t s.at s.advance v stands.here at)
            where
              by_one : s.advance ≡ v → TakesAlone searched.uses t w s ⊎ TakesAny t w s
              by_one is =
                  let there : (x : HasEdge t s.at s.advance p) × (s.at < x.1.to) = subst (λ y. (x : HasEdge t s.at y p) × (s.at < x.1.to)) (sym is) (edge, later) in
                  let named_there : are_named s.advance.kernel.places ≡ true = (own_alike w.kernel s.advance.kernel Exit stands.consistent stands.kernel).1 ∙ named in
                  let uses = uses_but ps searched.uses in
                  let own_there = subst (λ (y : WorldState). are_named y.kernel.places ≡ true → IsIndependent uses y.kernel p (step_effect_in y p)) (sym is) own named_there in
                  let here : IsIndependent uses w.kernel p (step_effect_in w p) =
                  subst (IsIndependent uses w.kernel p) (effect p) (independent_alike uses w.kernel s.advance.kernel p (step_effect_in s.advance p) stands.consistent stands.kernel own_there) in
                  let ended_there : HaveEnded s.advance ps = subst (λ y. HaveEnded y ps) (sym is) have_ended in
                  let goes = independent_goes uses w.kernel p (step_effect_in w p) here in
                  let h = along p goes there.0 in
                  let later_row : s.at < h.2.0.at = subst (λ n. s.at < n) (sym h.2.3) there.1 in
                  inl (record {
                    process = p;
                    ended = ps;
                    have_ended = λ q e x there. ended_there q e x (same q ∙ there);
                    independent = here;
                    keeps = (calm_alike searched.uses w s.advance stands.consistent world (searched.calm s.at s.advance stands.here)).keep p;
                    next = along_next t w p s (one_call w p h.0 h.1 (at_call p h.0 h.1) goes) h.2.0 h.2.1 h.2.2;
                    less = along_falls (λ i. length t.rows - i) t s h.2.0 p (omega (arith, within, later_row)) h.2.2;
                  })
