-- Where rows are tried by one independent step alone, a row has the world at rest to which any steps lead.
use Rattle.std.proofs.Common.{ℕ, zero, suc, ◌+◌, ◌<◌, ◌≤◌, ◌≡◌, arith, true, List, [], ◌∷◌, ◌++◌, refl, sym, ap, subst, ◌∙◌, length, inl, inr, ◌⊎◌}
use Rattle.std.proofs.lemmas.Bool.{cases_lt}
use Rattle.std.proofs.lemmas.List.{length-append}
use Rattle.ipc_kernel.specs.Operands.{are_named}
use Rattle.ipc_store.specs.declared.uses.ProcessUse.{ProcessUse}
use Rattle.ipc_store.specs.Uses.{uses_but}
use Rattle.lab_sched.specs.Worlds.{WorldState, step_effect_in, step, run, entries}
use Rattle.lab_search.specs.declared.store.Store.{Store}
use Rattle.lab_worlds.specs.Calls.{AreAlike}
use Rattle.lab_worlds.specs.Unwaiting.{NoneGoesOn}
use Rattle.lab_states.specs.Depths.{depth_of, AreDepths}
use Rattle.lab_search.specs.Stored.{IsAt}
use Rattle.lab_worlds.specs.Independent.{IsCalm}
use Rattle.lab_search.specs.Reduced.{IsSearchedByReduction}
use Rattle.lab_worlds.proofs.FewestCalls.{calls_in}
use Rattle.lab_worlds.proofs.IndependentSteps.{independent_goes, named_after, named_alone, calm_before}
use Rattle.lab_worlds.proofs.EndedProcesses.{ended_after, ended_run, keeps_but, calm_but, calm_whole, are_calm_but}
use Rattle.lab_worlds.proofs.OnwardSteps.{AreOnward, AreCalm, calls_along, calls_more, AreFronted, calm_by}
use Rattle.lab_search.proofs.PassingSteps.{ArePassed, fronted_or_passed}
use Rattle.lab_search.proofs.StandingWorlds.{Place, Stands}
use Rattle.lab_search.proofs.ReducedSearches.{left, StandsNext, TakesAlone, TakesAny, options, calm_alike}

-- lists one behind the other
onward_front : (xs ys : List ℕ) (w : WorldState) → AreOnward w (xs ++ ys) → AreOnward w xs
onward_front [] ys w h = tt
onward_front (x ∷ xs) ys w h = (h.0, onward_front xs ys (step w x) h.1)

-- what holds of a value where it holds of all that are less by a first number, or as much and less by a second
by_less : {A : Type 0} (f g : A → ℕ) (P : A → Type 0) → ((a : A) → ((b : A) → (f b < f a) ⊎ ((f b ≡ f a) × (g b < g a)) → P b) → P a) → (a : A) → P a
by_less {A} f g P each a = outer (suc (f a)) a (omega arith)
  where
    inner : (n : ℕ) → ((b : A) → f b < n → P b) → (k : ℕ) (a : A) → f a ≡ n → g a < k → P a
    inner n ih zero a same less = absurd (omega arith)
    inner n ih (suc k) a same less = each a (λ b h. elim h [
      | inl first ↦ ih b (omega (arith, first, same))
      | inr second ↦ inner n ih k b (second.0 ∙ same) (let lower = second.1 in omega arith)
    ])

    outer : (n : ℕ) (a : A) → f a < n → P a
    outer zero a less = absurd (omega arith)
    outer (suc n) a less = elim (cases_lt (f a) n) [
      | inl below ↦ outer n a below
      | inr above ↦ inner n (outer n) (suc (g a)) a (omega (arith, less, above)) (omega arith)
    ]

-- a world, where it stands, and steps from it
pub record Path : Type 0 where
  pub world : WorldState
  pub place : Place
  pub steps : List ℕ

-- where the path begins and what its steps do is known
pub record IsPath (t : Store) (c : Path) : Type 0 where
  pub stands : Stands t c.world c.place
  pub named : are_named c.world.kernel.places ≡ true
  pub onward : AreOnward c.world c.steps

-- the path that is left after a step
abbrev pub next_path : (t : Store) (c : Path) (p : ℕ) → StandsNext t c.world p c.place → List ℕ → Path
next_path t c p next steps = record { world = step c.world p; place = next.after.0; steps = steps }

-- it holds of paths without steps, and of others where it holds after one of their steps, or after an independent step that can be
-- taken after all of them, too
pub record HoldsByStep (uses : List ProcessUse) (t : Store) (P : Path → Type 0) : Type 0 where
  pub ends : (c : Path) → IsPath t c → AreAlike c.world c.place.advance → c.steps ≡ [] → P c
  pub fronts : (c : Path) (p : ℕ) → IsPath t c → (next : StandsNext t c.world p c.place) → (f : AreFronted c.world p c.steps) → P (next_path t c p next f.rest) → P c
  pub passes : (c : Path) → IsPath t c → (a : TakesAlone uses t c.world c.place) → ArePassed (uses_but a.ended uses) c.world a.process c.steps → P (next_path t c a.process a.next c.steps) → P c

module _ (t : Store) (start : WorldState) (searched : IsSearchedByReduction start t) where
  -- the same where its steps are taken from calm worlds
  abbrev HoldsOfLess : (Path → Type 0) → Path → Type 0
  HoldsOfLess P c = (b : Path) → (length b.steps < length c.steps) ⊎ ((length b.steps ≡ length c.steps) × (left t b.place < left t c.place)) → IsPath t b → P b

  by_calm : (P : Path → Type 0) → HoldsByStep searched.uses t P → (c : Path) → HoldsOfLess P c → IsPath t c → AreCalm searched.uses c.world c.steps → P c
  unfolding run
  by_calm P holds c ih h calm = elim (options t start searched c.world c.place h.stands h.named) [
    | inl a ↦ (
        alone a (fronted_or_passed (uses_but a.ended searched.uses) c.steps c.world a.process h.named a.independent (keeps_but a.ended searched.uses c.world a.process a.have_ended a.keeps) h.onward
        (are_calm_but a.ended searched.uses c.steps c.world a.have_ended calm)))
    | inr a ↦ any a c.steps refl
  ]
    where
      fronted : (p : ℕ) → StandsNext t c.world p c.place → are_named (step c.world p).kernel.places ≡ true → AreFronted c.world p c.steps → P c
      fronted p next named f =
          let size = f.shorter in
          holds.fronts c p h next f (ih (next_path t c p next f.rest) (inl (omega (arith, size))) (record { stands = next.after.1; named = named; onward = f.onward }))

      alone : (a : TakesAlone searched.uses t c.world c.place) → AreFronted c.world a.process c.steps ⊎ ArePassed (uses_but a.ended searched.uses) c.world a.process c.steps → P c
      alone a (inl f) = fronted a.process a.next (named_alone (uses_but a.ended searched.uses) c.world a.process h.named a.independent) f
      alone a (inr f) =
          let named = named_alone (uses_but a.ended searched.uses) c.world a.process h.named a.independent in
          holds.passes c h a f (ih (next_path t c a.process a.next c.steps) (inr (refl, a.less)) (record { stands = a.next.after.1; named = named; onward = f.onward }))

      any : TakesAny t c.world c.place → (qs : List ℕ) → qs ≡ c.steps → P c
      any a [] e = holds.ends c h a.alike (sym e)
      any a (r ∷ qs) e =
          let onward = subst (AreOnward c.world) (sym e) h.onward in
          let here = subst (AreCalm searched.uses c.world) (sym e) calm in
          let first : AreFronted c.world r (r ∷ qs) = record { rest = qs; onward = onward.1; leads = refl; shorter = refl; calls = calls_more c.world r qs } in
          fronted r (a.each r onward.0) (named_after searched.uses c.world r h.named (here.0.keep r)) (subst (AreFronted c.world r) e first)

  -- the steps lead to a calm world
  abbrev pub EndsCalm : Path → Type 0
  EndsCalm c = IsCalm searched.uses (run c.world c.steps)

  -- so do the first ones of a path, where shorter paths do
  calm_along : (c : Path) → ((qs : List ℕ) → length qs < length c.steps → IsPath t (record { world = c.world; place = c.place; steps = qs }) → IsCalm searched.uses (run c.world qs)) → IsPath t c
      → AreCalm searched.uses c.world c.steps
  calm_along c ih h = calm_by searched.uses c.steps c.world (λ qs r rs e.
      let size = ap length e in
      let parts = length-append qs (r ∷ rs) in
      ih qs (omega (arith, size, parts)) (record { stands = h.stands; named = h.named; onward = onward_front qs (r ∷ rs) c.world (subst (AreOnward c.world) e h.onward) }))

  pub ends_calm : (c : Path) → IsPath t c → EndsCalm c
  unfolding run
  ends_calm = by_less (λ c. length c.steps) (λ c. left t c.place) (λ c. IsPath t c → EndsCalm c) (λ c ih h. by_calm EndsCalm (record {
    ends = λ c g like none.
        subst (λ ps. IsCalm searched.uses (run c.world ps)) (sym none) (calm_alike searched.uses c.world c.place.advance g.stands.consistent like (searched.calm c.place.at c.place.advance g.stands.here));
    fronts = λ c p g next f rest. subst (IsCalm searched.uses) f.leads rest;
    passes = λ c g a f rest.
        let v = run c.world c.steps in
        let uses = uses_but a.ended searched.uses in
        let ended = ended_after v a.process a.ended (ended_run c.steps c.world a.ended a.have_ended) in
        calm_whole a.ended searched.uses v (calm_before uses v a.process f.named f.stays f.keeps (calm_but a.ended searched.uses (step v a.process) ended (subst (IsCalm searched.uses) f.leads rest)));
  }) c ih h (calm_along c (λ qs less. ih (record { world = c.world; place = c.place; steps = qs }) (inl less)) h))

  pub by_steps : (P : Path → Type 0) → HoldsByStep searched.uses t P → (c : Path) → IsPath t c → P c
  by_steps P holds = by_less (λ c. length c.steps) (λ c. left t c.place) (λ c. IsPath t c → P c) (λ c ih h.
      by_calm P holds c ih h (calm_along c (λ qs less. ends_calm (record { world = c.world; place = c.place; steps = qs })) h))

  -- a row no deeper than so many calls has a world that this one is alike
  abbrev pub HasLikeRow : List ℕ → WorldState → ℕ → Type 0
  HasLikeRow depths w n = (v : WorldState) × (i : ℕ) × IsAt t i v × AreAlike w v × (depth_of depths i ≤ n)

  -- steps to a world from which no process goes on lead to such a row
  abbrev pub Arrives : List ℕ → Path → Type 0
  Arrives depths c =
      (n : ℕ) → NoneGoesOn (run c.world c.steps) → depth_of depths c.place.at ≤ n → HasLikeRow depths (run c.world c.steps) (n + calls_along c.world c.steps)

  pub arrives : (depths : List ℕ) → AreDepths depths t.edges → (c : Path) → IsPath t c → Arrives depths c
  unfolding run entries
  arrives depths deep = by_steps (Arrives depths) (record {
    ends = λ c g like end n none low.
        subst (λ ps. HasLikeRow depths (run c.world ps) (n + calls_along c.world ps)) (sym end) (c.place.advance, c.place.at, g.stands.here, like, omega (arith, low));
    fronts = λ c p g next f rest n none low.
        let lower = next.deep depths deep in
        let calls = f.calls in
        let end = rest (n + calls_in p (step_effect_in c.world p)) (subst NoneGoesOn (sym f.leads) none) (omega (arith, lower, low)) in
        let most = end.4 in
        (end.0, end.1, end.2, subst (λ x. AreAlike x end.0) f.leads end.3, omega (arith, most, calls));
    passes = λ c g a f rest n none low.
        let v = run c.world c.steps in
        absurd (none a.process (independent_goes (uses_but a.ended searched.uses) v.kernel a.process (step_effect_in v a.process) f.stays));
  })
