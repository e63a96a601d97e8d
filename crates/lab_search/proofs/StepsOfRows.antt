-- What a step makes of a world that a row stands for.
use Rattle.std.proofs.Common.{ℕ, zero, ◌≡◌, ◌<◌, ◌≤◌, length, ◌++◌, [], ◌∷◌, arith, inl, inr, Bool, false, IsTrue, Option, Some, None, refl, sym, ap, subst, ◌∙◌, slice_get, set}
use Rattle.std.specs.Option.{option_map}
use Rattle.std.proofs.lemmas.Bool.{cases_lt}
use Rattle.std.proofs.lemmas.Option.{slice_get_past}
use Rattle.ipc_kernel.specs.Kernel.{KernelState, IsSettled}
use Rattle.lab_sched.specs.Worlds.{Process, WorldState, StepEffect, step_effect, step_effect_in, process_after, kernel_after, after, step}
use Rattle.lab_sched.specs.Held.{process_view}
use Rattle.lab_sched.proofs.WorldLemmas.{after_effect}
use Rattle.lab_states.specs.Rows.{Row}
use Rattle.lab_search.specs.declared.store.Mover.{Mover}
use Rattle.lab_search.specs.declared.reduced.KeptAttempt.{KeptAttempt}
use Rattle.lab_search.specs.declared.moves.Change.{Change}
use Rattle.lab_search.specs.declared.store.Store.{Store}
use Rattle.lab_states.specs.declared.edges.Edge.{Edge}
use Rattle.lab_search.specs.declared.store.Next.{Next}
use Rattle.lab_search.specs.declared.store.Next.TheVariants.{Nothing, Limit, To}
use Rattle.lab_worlds.specs.Calls.{IsAtCall, IsAhead, Both, Alongside}
use Rattle.lab_worlds.specs.Unwaiting.{GoesOn, NoneGoesOn}
use Rattle.lab_worlds.specs.Stepped.{IsReady, IsReached, AreReached}
use Rattle.lab_worlds.specs.declared.errors.Errors.{Errors}
use Rattle.lab_worlds.specs.Errors.{IsAnsweredToCall}
use Rattle.lab_search.specs.Stored.{IsState, IsRow, IsAt, LeadsTo, IsStore, IsExactly, IsNext, IsMove, IsNextAt, AreErrorsAt, HasEdge, HasEdgeIfEnabled, IsExpanded}
use Rattle.lab_search.specs.Private.Stored.{Grows, IsLater, IsMoveFrom, IsStep, IsKeptStep, IsKeptAttempt, changed}
use Rattle.lab_worlds.proofs.Pushes.{alongside_set, get_pushed, all_at}
use Rattle.lab_worlds.proofs.AfterLocalSteps.{same_some}
use Rattle.lab_search.proofs.FirstWorlds.{at_unique, row_at}
use Rattle.lab_search.proofs.Growths.{HasWorld, Leads, IsGrown, grown_if, state_kept, state_grows, at_grows, row_grows}

pub both_left : {A B : Type 0} (R : A → B → Type 0) (x : A) (o : Option B) → Both R (Some x) o → (y : B) × (o ≡ Some y) × R x y
both_left R x None h = absurd h
both_left R x (Some y) h = (y, refl, h)

pub both_right : {A B : Type 0} (R : A → B → Type 0) (y : B) (o : Option A) → Both R o (Some y) → (x : A) × (o ≡ Some x) × R x y
both_right R y None h = absurd h
both_right R y (Some x) h = (x, refl, h)

-- the state of a process of a world that a row stands for
pub process_at : (t : Store) (r : Row) (w : WorldState) (p i : ℕ) → IsRow t r w → slice_get r.states p ≡ Some i
    → (s : Process) × (slice_get w.processes p ≡ Some s) × IsState t i s
process_at t r w p i row e = both_left (IsState t) i (slice_get w.processes p) (subst (λ o. Both (IsState t) o (slice_get w.processes p)) e (row.states p))

own_at : (t : Store) → IsStore t → (a : Option ℕ) (b : Option Process) → Both (IsState t) a b → Both IsReached b b
own_at t is None None h = tt
own_at t is (Some i) (Some s) h =
    let k = state_kept t i s h in
    let ahead : IsAhead s s = record { taken = zero; local = refl; at_call = subst IsAtCall k.2 (all_at IsReady t.states.processes i k.0 is.states k.1).1 } in
    record { ahead = ahead; few = omega arith }
own_at t is _ _ h = absurd h

-- a world that a row stands for is its own advance
pub own_advance : (t : Store) (r : Row) (w : WorldState) → IsStore t → IsRow t r w → Alongside IsReached w.processes w.processes
own_advance t r w is row p = own_at t is (slice_get r.states p) (slice_get w.processes p) (row.states p)

-- what a move says, for a world
pub next_of : (t : Store) (i : ℕ) (m : Mover) (n : Next) → (r : Row) × (slice_get t.rows i ≡ Some r) × (r.kernel ≡ m.kernel) × (slice_get r.states m.pid ≡ Some m.state) → IsMoveFrom t m n → IsNextAt t i m.pid n
next_of t i m n placed move w here =
    let is = row_at t i placed.0 w placed.1 here in
    let s = process_at t placed.0 w m.pid m.state is placed.3 in
    (s.0, s.1, move w.kernel s.0 (subst (λ k. IsExactly t k w.kernel) placed.2 is.kernel) is.settled s.2)

-- what the errors are of a move, for a world
pub errors_of : (t : Store) (i : ℕ) (m : Mover) (n : ℕ) (es : Errors) → (r : Row) × (slice_get t.rows i ≡ Some r) × (r.kernel ≡ m.kernel) × (slice_get r.states m.pid ≡ Some m.state)
    → ((k : KernelState) (s : Process) → IsExactly t m.kernel k → IsSettled k → IsState t m.state s → IsAnsweredToCall k m.pid s n es) → AreErrorsAt t i m.pid n es
errors_of t i m n es placed errors w here =
    let is = row_at t i placed.0 w placed.1 here in
    let s = process_at t placed.0 w m.pid m.state is placed.3 in
    (s.0, s.1, errors w.kernel s.0 (subst (λ k. IsExactly t k w.kernel) placed.2 is.kernel) is.settled s.2)

-- a move over a kernel and in a state that are kept is the move from there
pub move_from : (t : Store) (m : Mover) (n : Next) → IsMove t m n → IsMoveFrom t m n
move_from t m n h k s at settled here =
    let k-is : h.0 ≡ k = same_some h.0 k (slice_get t.kernels.kernels m.kernel) h.2 at in
    let s-is : h.1 ≡ s = same_some h.1 s (option_map process_view (slice_get t.states.processes m.state)) h.3 here in
    subst (λ j. IsNext t j m.pid s n) k-is (subst (λ x. IsNext t h.0 m.pid x n) s-is (h.4 (subst IsSettled (sym k-is) settled)))

-- what a process does next, where that is a step
pub next_to : (t : Store) (i p kernel state taken : ℕ) (errors : Errors) (n : Next) → n ≡ To kernel state taken errors → IsNextAt t i p n → IsStep t (record { at = i; pid = p; kernel = kernel; state = state })
next_to t i p kernel state taken errors n is next = (taken, errors, subst (λ m. IsNextAt t i p m) is next)

-- the world after a step, by its row
moved : (t : Store) (c : Change) (r : Row) (w : WorldState) (taken : ℕ) (errors : Errors) (s : Process) → IsStore t → IsRow t r w → slice_get w.processes c.pid ≡ Some s → IsNext t w.kernel c.pid s (To c.kernel c.state taken errors)
    → (v : WorldState) × IsRow t (changed r c) v × AreReached (step w c.pid) v
moved t c r w taken errors s is row here next = (v, to, ahead)
  where
    i : (i : ℕ) × (slice_get r.states c.pid ≡ Some i) × IsState t i s
    i = both_right (IsState t) s (slice_get r.states c.pid) (subst (λ o. Both (IsState t) (slice_get r.states c.pid) o) here (row.states c.pid))

    effect : StepEffect
    effect = step_effect w.kernel c.pid (Some s)

    v : WorldState
    v = record { processes = set w.processes c.pid next.0; kernel = next.1.0 }

    to : IsRow t (changed r c) v
    to = record {
      kernel = next.1.1;
      settled = next.1.3;
      states = alongside_set (IsState t) r.states w.processes c.pid i.0 c.state s next.0 i.1 here row.states next.2;
    }

    stepped_is : step w c.pid ≡ record { processes = set w.processes c.pid (process_after s effect); kernel = kernel_after w.kernel c.pid effect }
    stepped_is = ap (λ o. after w c.pid (step_effect w.kernel c.pid o)) here ∙ after_effect w c.pid s effect here

    ahead : AreReached (step w c.pid) v
    ahead = subst (λ x. AreReached x v) (sym stepped_is) (record {
      kernel = next.1.2;
      processes = alongside_set IsReached w.processes w.processes c.pid s (process_after s effect) s next.0 here here (own_advance t r w is row) next.3;
    })

-- a process that isn't there does nothing
pub absent : (t : Store) (r : Row) (w : WorldState) (at p : ℕ) → IsRow t r w → slice_get r.states p ≡ None → HasEdgeIfEnabled t at w p
absent t r w at p row e effective =
    let gone : slice_get w.processes p ≡ None = left (slice_get w.processes p) (subst (λ o. Both (IsState t) o (slice_get w.processes p)) e (row.states p)) in
    absurd (subst (λ o. GoesOn (step_effect w.kernel p o)) gone effective)
  where
    left : (o : Option Process) → Both (IsState t) None o → o ≡ None
    left None h = refl
    left (Some y) h = absurd h

-- each process of a world was tried
pub all_expanded_in : (t u : Store) (at count pid : ℕ) → IsStore t → Grows t u → ((r : Row) × (slice_get t.rows at ≡ Some r) × (count ≡ length r.states)) → count ≤ pid
    → ((w : WorldState) → IsAt t at w → (p : ℕ) → p < pid → HasEdgeIfEnabled u at w p) → IsExpanded u at
all_expanded_in t u at count pid is g row all expanded_in =
    let w = all_at (HasWorld t) t.rows at row.0 is.rows row.1 in
    let here : IsAt t at w.0 = (row.0, row.1, w.1) in
    let there = at_grows t u at w.0 g here in (
      w.0,
      there,
      λ p. elim (cases_lt p pid) [
        | inl below ↦ expanded_in w.0 here p below
        | inr above ↦
            let past : length row.0.states ≤ p = let count-is = row.2 in omega arith in
            absent u row.0 w.0 at p (row_grows t u row.0 w.0 g w.1) (slice_get_past row.0.states p past)
      ],
    )

-- a process that makes a step of the kernel goes on
pub goes_on : (t : Store) (w : WorldState) (at p : ℕ) (next : Next) → IsAt t at w → IsNextAt t at p next → (next ≡ Nothing → ⊥) → GoesOn (step_effect_in w p)
goes_on t w at p Nothing here m some = absurd (some refl)
goes_on t w at p Limit here m some = let n = m w here in subst (λ o. GoesOn (step_effect w.kernel p o)) (sym n.1) n.2
goes_on t w at p (To kernel state taken errors) here m some = let n = m w here in subst (λ o. GoesOn (step_effect w.kernel p o)) (sym n.1) n.2.4

-- the world of a row, and that of the row that is changed, to which a process goes on
world_after : (t : Store) (c : Change) (r : Row) → IsStore t → IsStep t c → slice_get t.rows c.at ≡ Some r
    → (w : WorldState) × (v : WorldState) × IsAt t c.at w × IsRow t (changed r c) v × AreReached (step w c.pid) v × GoesOn (step_effect_in w c.pid)
world_after t c r is step there =
    let w = all_at (HasWorld t) t.rows c.at r is.rows there in
    let here : IsAt t c.at w.0 = (r, there, w.1) in
    let next = step.2 w.0 here in
    let m = moved t c r w.0 step.0 step.1 next.0 is w.1 next.1 next.2 in
    (w.0, m.0, here, m.1, m.2, goes_on t w.0 c.at c.pid (To c.kernel c.state step.0 step.1) here step.2 (λ none. absurd (cc)))

-- where that row is kept
pub leads_after : (t u : Store) (c : Change) (j : ℕ) → IsStore t → Grows t u → IsStep t c → (r : Row) × (slice_get t.rows c.at ≡ Some r) × (slice_get u.rows j ≡ Some (changed r c)) → LeadsTo u c.at c.pid j
leads_after t u c j is g step after =
    let a = world_after t c after.0 is step after.1 in
    (a.0, a.1, at_grows t u c.at a.0 g a.2, (changed after.0 c, after.2, row_grows t u (changed after.0 c) a.1 g a.3), a.4, a.5)

-- where it is kept as one more
pub row_after : (t u : Store) (c : Change) (n : ℕ) → IsStore t → IsStep t c → (r : Row) × (slice_get t.rows c.at ≡ Some r) × (u.rows ≡ t.rows ++ changed r c ∷ []) → n ≡ length t.rows
    → (IsGrown (HasWorld t) t.rows u.rows → IsLater t u) → IsLater t u × LeadsTo u c.at c.pid n
row_after t u c n is step pushed count grown =
    let row : Row = changed pushed.0 c in
    let a = world_after t c pushed.0 is step pushed.1 in
    let later = grown (inr (row, pushed.2, (a.1, a.3))) in
    let there = ap (λ xs. slice_get xs n) pushed.2 ∙ ap (λ m. slice_get (t.rows ++ row ∷ []) m) count ∙ get_pushed t.rows row in
    (later, leads_after t u c n is later.grows step (pushed.0, pushed.1, there))

-- an edge leads where it says
leads_by : (t : Store) (at p to : ℕ) (e : Edge) → e.from ≡ at → e.pid ≡ p → e.to ≡ to → LeadsTo t at p to → LeadsTo t e.from e.pid e.to
leads_by t at p to e from by there h = subst (λ i. LeadsTo t i e.pid e.to) (sym from) (subst (λ q. LeadsTo t at q e.to) (sym by) (subst (λ j. LeadsTo t at p j) (sym there) h))

-- where it may have been kept
pub edge_after : (t u : Store) (at p to : ℕ) (e : Edge) (done : Bool) → LeadsTo t at p to → e.from ≡ at → e.pid ≡ p → e.to ≡ to → (IsTrue done → u.edges ≡ t.edges ++ e ∷ []) → (done ≡ false → u.edges ≡ t.edges)
    → (IsGrown (Leads t) t.edges u.edges → IsLater t u) → IsLater t u × (IsTrue done → (w : WorldState) → IsAt t at w → (x : HasEdge u at w p) × (x.1.to ≡ to))
edge_after t u at p to e done leads from by there pushed same grown =
    let later = grown (grown_if (Leads t) done t.edges u.edges e (leads_by t at p to e from by there leads) pushed same) in
    let v = leads.1 in
    let to_v = at_grows t u e.to v later.grows (subst (λ n. IsAt t n v) (sym there) leads.3) in (
      later,
      λ is w here.
          let reached = subst (λ x. AreReached (step x p) v) (at_unique t at leads.0 w leads.2 here) leads.4 in
          ((length t.edges, e, v, ap (λ xs. slice_get xs (length t.edges)) (pushed is) ∙ get_pushed t.edges e, from, to_v, reached, by), there),
    )

-- where an edge leads from a row, a process goes on from its world
pub edge_goes_on : (t : Store) (w : WorldState) (at : ℕ) → IsStore t → (i : ℕ) × (e : Edge) × (slice_get t.edges i ≡ Some e) × (e.from ≡ at) → IsAt t at w → NoneGoesOn w → ⊥
edge_goes_on t w at is edge here none =
    let e = edge.1 in
    let h = all_at (Leads t) t.edges edge.0 e is.edges edge.2 in
    let same : h.0 ≡ w = at_unique t at h.0 w (subst (λ i. IsAt t i h.0) edge.3 h.2) here in
    none e.pid (subst (λ v. GoesOn (step_effect_in v e.pid)) same h.5)

-- one that makes none doesn't
pub stays : (t : Store) (w : WorldState) (at p : ℕ) → IsAt t at w → IsNextAt t at p Nothing → GoesOn (step_effect_in w p) → ⊥
stays t w at p here m goes = let n = m w here in n.2 (subst (λ o. GoesOn (step_effect w.kernel p o)) n.1 goes)

-- the move that comes of an attempt
pub move_of_attempt : (t u v : Store) (m : Mover) (a : KeptAttempt) (n : Next) → Grows t v → (h : IsKeptAttempt t u m a) → (IsKeptStep u h.0 m.pid h.1 a → IsNext v h.0 m.pid h.1 n) → IsMove v m n
move_of_attempt t u v m a n g h made = (h.0, h.1, g.kernels.kernels m.kernel h.0 h.2, state_grows t v m.state h.1 g h.3, λ settled. made h.5)
