-- Where worlds stand among the rows of a search: the row of their advance, and the local steps up to it.
use Rattle.std.proofs.Common.{ℕ, zero, suc, ◌+◌, ◌*◌, ◌<◌, ◌≤◌, ◌≡◌, List, [], ◌∷◌, Option, Some, None, refl, sym, ap, subst, ◌∙◌, arith, length, slice_get, set, count_by, inl, inr, ◌⊎◌, rules}
use Rattle.lc3_machine.specs.Process.{Process as Machine}
use Rattle.lab_sched.specs.Worlds.{Process, Running, Waiting, WorldState, moves, next_action, process_after_answer, StepEffect, nothing, local_step, kernel_step, step_effect, step_effect_in, after, step, IsEffective}
use Rattle.ipc_kernel.specs.declared.call.Answer.TheVariants.{Done, Wait}
use Rattle.lab_worlds.specs.Unwaiting.{GoesOn}
use Rattle.lab_sched.specs.Verdicts.{is_running}
use Rattle.lab_sched.specs.LocalRun.{AreLocal}
use Rattle.lab_sched.proofs.ListPlaces.{get-set_same, get-set_other, get_past}
use Rattle.lab_sched.proofs.Executions.{effect_local}
use Rattle.lab_sched.proofs.OwnSteps.{first_local}
use Rattle.lab_sched.proofs.Commutes.{after_other}
use Rattle.lab_search.specs.declared.store.Store.{Store}
use Rattle.lab_states.specs.declared.edges.Edge.{Edge}
use Rattle.lab_worlds.specs.Calls.{IsAtCall, IsAhead, Both, Alongside}
use Rattle.lab_worlds.specs.Closed.{HasAdvance}
use Rattle.lab_search.specs.Stored.{IsAt, HasEdge, IsSearched}
use Rattle.lab_worlds.specs.Stepped.{IsReached, AreReached}
use Rattle.lab_worlds.proofs.UnwaitingWorlds.{StepOf, step_of, still, by_itself, by_call, by_answer}
use Rattle.lab_worlds.proofs.Pushes.{at_or_other}
use Rattle.lab_worlds.proofs.AfterLocalSteps.{none_local}
use Rattle.lab_search.proofs.FirstWorlds.{edge_from}
use Rattle.ipc_kernel.specs.Alike.{IsAlike, IsConsistent}
use Rattle.ipc_store.proofs.Alikes.{alike_then}
use Rattle.lab_worlds.proofs.AlikeWorlds.{effect_alike, kernel_alike, consistent_after}
use Rattle.lab_worlds.proofs.HeldAdvances.{same_after}
use Rattle.lab_worlds.proofs.FewestCalls.{count_set, set_most, one_most}

-- the sum of a list
unfoldable pub total : List ℕ → ℕ
total [] = 0
total (k ∷ ks) = k + total ks

pub total_set : (ks : List ℕ) (p k j : ℕ) → slice_get ks p ≡ Some k → total (set ks p j) + k ≡ total ks + j
unfolding total
total_set [] p k j e = absurd (cc)
total_set (x ∷ ks) zero k j e = let same : x ≡ k = cc in omega arith
total_set (x ∷ ks) (suc p) k j e = omega (arith, total_set ks p k j e)

-- how many processes run
abbrev pub running : WorldState → ℕ
running w = count_by is_running w.processes

-- at most one process more runs after a step
pub running_goes : (w : WorldState) (p : ℕ) → running (step w p) ≤ running w + 1
running_goes w p = by (step_effect_in w p)
  where
    more : (u : Process) → count_by is_running (set w.processes p u) ≤ running w + 1
    more u = omega (arith, set_most is_running w.processes p u, one_most is_running u)

    by : (t : StepEffect) → running (after w p t) ≤ running w + 1
    by nothing = omega arith
    by (local_step n) = more (Running n)
    by (kernel_step m c a) = more (process_after_answer m c a)

-- where a process begins to wait, it runs no more
pub running_waits : (w : WorldState) (p : ℕ) → IsEffective (step_effect_in w p) → (GoesOn (step_effect_in w p) → ⊥) → running (step w p) + 1 ≡ running w
unfolding process_after_answer
running_waits w p h g = by (step_of w p)
  where
    by : StepOf w p → running (step w p) + 1 ≡ running w
    by (still e) = absurd (subst IsEffective e h)
    by (by_itself m q at acts e) = absurd (g (subst GoesOn (sym e) tt))
    by (by_call m c Wait at asks is e) =
        let sums = count_set is_running w.processes p (Running m) (Waiting m c) at in
        ap (λ t. running (after w p t) + 1) e ∙ (omega (arith, sums))
    by (by_call m c (Done r) at asks is e) = absurd (g (subst GoesOn (sym e) tt))
    by (by_answer m c r at is e) = absurd (g (subst GoesOn (sym e) tt))

-- a process takes so many local steps to the state in which it is at a call
abbrev pub TakesAt : Option ℕ → Option Process → Option Process → Type 0
TakesAt None None None = Unit {0}
TakesAt (Some k) (Some s) (Some u) = AreLocal k s u × IsAtCall u
TakesAt _ _ _ = ⊥

abbrev pub Takes : List ℕ → List Process → List Process → Type 0
Takes ks ss us = (p : ℕ) → TakesAt (slice_get ks p) (slice_get ss p) (slice_get us p)

-- the local steps of processes that are ahead of others
pub taken_of : (ss us : List Process) → Alongside IsAhead ss us → (ks : List ℕ) × Takes ks ss us × (length ks ≡ length ss)
taken_of [] [] h = ([], λ p. tt, refl)
taken_of (s ∷ ss) (u ∷ us) h =
    let first : IsAhead s u = h 0 in
    let rest = taken_of ss us (λ p. h (suc p)) in
    (first.taken ∷ rest.0, takes_cons first.taken s u rest.0 ss us (first.local, first.at_call) rest.1, ap (λ n. suc n) rest.2)
  where
    takes_cons : (k : ℕ) (s u : Process) (ks : List ℕ) (ss us : List Process) → AreLocal k s u × IsAtCall u → Takes ks ss us → Takes (k ∷ ks) (s ∷ ss) (u ∷ us)
    takes_cons k s u ks ss us h r zero = h
    takes_cons k s u ks ss us h r (suc p) = r p
taken_of _ _ h = absurd (h 0)

-- a process at a call takes no local step
none_taken : (k : ℕ) (s u : Process) → IsAtCall s → AreLocal k s u → k ≡ 0
none_taken zero s u at h = refl
none_taken (suc k) (Running m) u at h = let asks = at.1 in let goes = h.1.1 in absurd (cc)
none_taken (suc k) _ u at h = absurd h.1

-- a local step leaves one less
one_taken : (k : ℕ) (m q : Machine) (u : Process) → next_action m ≡ moves q → AreLocal k (Running m) u → IsAtCall u → (j : ℕ) × (k ≡ suc j) × AreLocal j (Running q) u
one_taken zero m q u e h at = let asks = subst IsAtCall (sym h) at in let is = asks.1 in absurd (cc)
one_taken (suc j) m q u e h at =
    let first = first_local j m u h in
    let is = first.1 in
    let same : first.0 ≡ q = cc in
    (j, refl, subst (λ x. AreLocal j (Running x) u) same first.2)

-- a process that took no step since its call
taken_on : (a : Option ℕ) (b c d : Option Process) → TakesAt a b c → Both IsReached c d → TakesAt a b d
taken_on None None None None h r = tt
taken_on (Some k) (Some s) (Some x) (Some y) h r = subst (λ z. AreLocal k s z × IsAtCall z) (sym (none_local r.ahead.taken x y h.1 r.ahead.local)) h
taken_on _ _ _ _ h r = search rules

-- the local steps after a step of a process that is there
reached_by : (a b : Option Process) (x : Process) → a ≡ Some x → Both IsReached a b → (j : ℕ) × (j < 4294967296) × TakesAt (Some j) a b
reached_by (Some s) (Some u) x e r = (r.ahead.taken, r.few, (r.ahead.local, r.ahead.at_call))
reached_by (Some s) None x e r = absurd r
reached_by None b x e r = absurd (cc)

-- a process that is there stays there
still_there : (w : WorldState) (p : ℕ) (s : Process) → slice_get w.processes p ≡ Some s → (x : Process) × (slice_get (step w p).processes p ≡ Some x)
still_there w p s e = by (step_effect_in w p)
  where
    by : (t : StepEffect) → (x : Process) × (slice_get (after w p t).processes p ≡ Some x)
    by nothing = (s, e)
    by (local_step n) = (Running n, get-set_same w.processes p (Running n) (get_past w.processes p s e))
    by (kernel_step m c a) = (process_after_answer m c a, get-set_same w.processes p (process_after_answer m c a) (get_past w.processes p s e))

-- the state of a process of a world whose advance is known
pub both_there : (a : Option ℕ) (b c : Option Process) (s : Process) → b ≡ Some s → TakesAt a b c → (k : ℕ) × (u : Process) × (a ≡ Some k) × (c ≡ Some u) × AreLocal k s u × IsAtCall u
both_there (Some k) (Some b) (Some u) s e h = let same : b ≡ s = cc in (k, u, refl, refl, subst (λ x. AreLocal k x u) same h.0, h.1)
both_there a None c s e h = absurd (cc)
both_there _ _ _ s e h = absurd h

-- a row, its world, and how many local steps of each process lead there
pub record Place : Type 0 where
  pub at : ℕ
  pub advance : WorldState
  pub taken : List ℕ

-- the world leads there by them, over a kernel that is alike
pub record Stands (t : Store) (w : WorldState) (s : Place) : Type 0 where
  pub here : IsAt t s.at s.advance
  pub kernel : IsAlike w.kernel s.advance.kernel
  pub consistent : IsConsistent w.kernel
  pub processes : Takes s.taken w.processes s.advance.processes

-- where process p takes a local step, one less is left
abbrev pub GoesNearer : Place → Place → ℕ → Type 0
GoesNearer s u p = (j : ℕ) × (slice_get s.taken p ≡ Some (suc j)) × (u.taken ≡ set s.taken p j) × (u.at ≡ s.at)

-- where it takes a step of the kernel, an edge of it leads on, and fewer than 2^32 local steps are left
abbrev pub GoesAlong : Store → Place → Place → ℕ → Type 0
GoesAlong t s u p =
    (i : ℕ) × (e : Edge) × (j : ℕ) × (slice_get t.edges i ≡ Some e) × (e.from ≡ s.at) × (e.to ≡ u.at) × (e.pid ≡ p)
    × (slice_get s.taken p ≡ Some 0) × (u.taken ≡ set s.taken p j) × (j < 4294967296)

-- the local steps that are left, and by far more for where the row stands
abbrev pub measure : (ℕ → ℕ) → Place → ℕ
measure f s = total s.taken + 4294967296 * f s.at

-- either step leaves less, the one of the kernel where the row stands so
pub nearer_falls : (f : ℕ → ℕ) (s u : Place) (p : ℕ) → GoesNearer s u p → measure f u < measure f s
nearer_falls f s u p h =
    let sums = total_set s.taken p (suc h.0) h.0 h.1 in
    subst (λ i. total u.taken + 4294967296 * f i < measure f s) (sym h.3) (subst (λ ks. total ks + 4294967296 * f s.at < measure f s) (sym h.2) (omega (arith, sums)))

pub along_falls : (f : ℕ → ℕ) (t : Store) (s u : Place) (p : ℕ) → f u.at < f s.at → GoesAlong t s u p → measure f u < measure f s
along_falls f t s u p less h =
    let sums = total_set s.taken p 0 h.2 h.7 in
    subst (λ ks. total ks + 4294967296 * f u.at < measure f s) (sym h.8) (falls (total s.taken) (total (set s.taken p h.2)) h.2 (f s.at) (f u.at) sums h.9 less)
  where
    falls : (x y i a b : ℕ) → y + 0 ≡ x + i → i < 4294967296 → b < a → y + 4294967296 * b < x + 4294967296 * a
    falls x y i a b sums few less = omega arith

abbrev pub StandsAfter : Store → WorldState → ℕ → Place → Type 0
StandsAfter t w p s = (u : Place) × Stands t (step w p) u × (GoesNearer s u p ⊎ GoesAlong t s u p)

-- before the first step
pub begins_stands : (t : Store) (start : WorldState) → HasAdvance (IsAt t 0) start → IsConsistent start.kernel → (s : Place) × Stands t start s × (length s.taken ≡ length start.processes)
begins_stands t start initial consistent =
    let taken = taken_of start.processes initial.0.processes initial.2.processes in
    (record { at = 0; advance = initial.0; taken = taken.0 }, record { here = initial.1; kernel = initial.2.kernel; consistent = consistent; processes = taken.1 }, taken.2)

pub begins_first : (t : Store) (start : WorldState) (initial : HasAdvance (IsAt t 0) start) (consistent : IsConsistent start.kernel) → (begins_stands t start initial consistent).0.at ≡ 0
unfolding begins_stands
begins_first t start initial consistent = refl

-- a process at a call is the same there
pub standing_same : (t : Store) (w : WorldState) (p : ℕ) (x : Process) (s : Place) → slice_get w.processes p ≡ Some x → IsAtCall x → Stands t w s → slice_get s.advance.processes p ≡ Some x
standing_same t w p x s a at stands =
    let found = both_there (slice_get s.taken p) (slice_get w.processes p) (slice_get s.advance.processes p) x a (stands.processes p) in
    found.3 ∙ ap (λ y. Some y) (none_local found.0 x found.1 at found.4)

-- and makes the same step
pub standing_effect : (t : Store) (w : WorldState) (p : ℕ) (x : Process) (s : Place) → slice_get w.processes p ≡ Some x → IsAtCall x → Stands t w s → step_effect_in s.advance p ≡ step_effect_in w p
standing_effect t w p x s a at stands =
    effect_alike w.kernel s.advance.kernel p (slice_get s.advance.processes p) stands.consistent stands.kernel
    ∙ ap (λ o. step_effect w.kernel p o) (standing_same t w p x s a at stands ∙ sym a)

-- the local steps after a step of process p, which has other ones left then
takes_set : (ks : List ℕ) (ss us : List Process) (p k j : ℕ) → slice_get ks p ≡ Some k → TakesAt (Some j) (slice_get ss p) (slice_get us p)
    → ((i : ℕ) → (p ≡ i → ⊥) → TakesAt (slice_get ks i) (slice_get ss i) (slice_get us i)) → Takes (set ks p j) ss us
takes_set ks ss us p k j at here others i = at_or_other (λ n. TakesAt (slice_get (set ks p j) n) (slice_get ss n) (slice_get us n)) p i
    (subst (λ o. TakesAt o (slice_get ss p) (slice_get us p)) (sym (get-set_same ks p j (get_past ks p k at))) here)
    (λ other. subst (λ o. TakesAt o (slice_get ss i) (slice_get us i)) (sym (get-set_other ks p i j other)) (others i other))

module _ (t : Store) where
  -- after a local step
  pub local_stands : (w : WorldState) (p : ℕ) (m q : Machine) (s : Place) → slice_get w.processes p ≡ Some (Running m) → next_action m ≡ moves q → Stands t w s
      → (u : Place) × Stands t (step w p) u × GoesNearer s u p
  local_stands w p m q s a e stands = (u, subst (λ x. Stands t x u) (sym stepped) there, (one.0, found.2 ∙ ap (λ x. Some x) one.1, refl, refl))
    where
      found : (k : ℕ) × (v : Process) × (slice_get s.taken p ≡ Some k) × (slice_get s.advance.processes p ≡ Some v) × AreLocal k (Running m) v × IsAtCall v
      found = both_there (slice_get s.taken p) (slice_get w.processes p) (slice_get s.advance.processes p) (Running m) a (stands.processes p)

      one : (j : ℕ) × (found.0 ≡ suc j) × AreLocal j (Running q) found.1
      one = one_taken found.0 m q found.1 e found.4 found.5

      u : Place
      u = record { at = s.at; advance = s.advance; taken = set s.taken p one.0 }

      stepped : step w p ≡ after w p (local_step q)
      stepped = ap (λ x. after w p x) (effect_local w p m q a e)

      now : slice_get (set w.processes p (Running q)) p ≡ Some (Running q)
      now = get-set_same w.processes p (Running q) (get_past w.processes p (Running m) a)

      there : Stands t (after w p (local_step q)) u
      there = record {
        here = stands.here;
        kernel = stands.kernel;
        consistent = stands.consistent;
        processes = takes_set s.taken (set w.processes p (Running q)) s.advance.processes p found.0 one.0 found.2
            (subst (λ o. TakesAt (Some one.0) o (slice_get s.advance.processes p)) (sym now) (subst (λ o. TakesAt (Some one.0) (Some (Running q)) o) (sym found.3) (one.2, found.5)))
            (λ i other. subst (λ o. TakesAt (slice_get s.taken i) o (slice_get s.advance.processes i)) (sym (get-set_other w.processes p i (Running q) other)) (stands.processes i));
      }

  -- after a step of the kernel that has an edge
  pub along_stands : (w : WorldState) (p : ℕ) (x : Process) (s : Place) → slice_get w.processes p ≡ Some x → IsAtCall x → Stands t w s → (edge : HasEdge t s.at s.advance p)
      → (u : Place) × Stands t (step w p) u × GoesAlong t s u p × (u.at ≡ edge.1.to)
  along_stands w p x s a at stands edge = (u, there, (edge.0, edge.1, next.0, edge.3, edge.4, refl, edge.7, found.2 ∙ ap (λ n. Some n) none, refl, next.1), refl)
    where
      v : WorldState
      v = s.advance

      found : (k : ℕ) × (y : Process) × (slice_get s.taken p ≡ Some k) × (slice_get v.processes p ≡ Some y) × AreLocal k x y × IsAtCall y
      found = both_there (slice_get s.taken p) (slice_get w.processes p) (slice_get v.processes p) x a (stands.processes p)

      none : found.0 ≡ 0
      none = none_taken found.0 x found.1 at found.4

      same : slice_get v.processes p ≡ Some x
      same = standing_same t w p x s a at stands

      same_effect : step_effect_in v p ≡ step_effect_in w p
      same_effect = standing_effect t w p x s a at stands

      to : WorldState
      to = edge.2

      reached : AreReached (after v p (step_effect_in w p)) to
      reached = subst (λ y. AreReached (after v p y) to) same_effect edge.6

      stays : slice_get (step w p).processes p ≡ slice_get (after v p (step_effect_in w p)).processes p
      stays = same_after w v p x (step_effect_in w p) a same

      next : (i : ℕ) × (i < 4294967296) × TakesAt (Some i) (slice_get (step w p).processes p) (slice_get to.processes p)
      next =
          let y = still_there w p x a in
          let h = subst (λ o. Both IsReached o (slice_get to.processes p)) (sym stays) (reached.processes p) in
          reached_by (slice_get (step w p).processes p) (slice_get to.processes p) y.0 y.1 h

      takes : Takes (set s.taken p next.0) (step w p).processes to.processes
      takes = takes_set s.taken (step w p).processes to.processes p found.0 next.0 found.2 next.2 (λ i other.
          let old = subst (λ o. TakesAt (slice_get s.taken i) o (slice_get v.processes i)) (sym (after_other w i p (step_effect_in w p) other)) (stands.processes i) in
          let then_at = subst (λ o. Both IsReached o (slice_get to.processes i)) (after_other v i p (step_effect_in w p) other) (reached.processes i) in
          taken_on (slice_get s.taken i) (slice_get (step w p).processes i) (slice_get v.processes i) (slice_get to.processes i) old then_at)

      u : Place
      u = record { at = edge.1.to; advance = to; taken = set s.taken p next.0 }

      there : Stands t (step w p) u
      there = record {
        here = edge.5;
        kernel = alike_then (step w p).kernel (after v p (step_effect_in w p)).kernel to.kernel (kernel_alike w v p (step_effect_in w p) stands.consistent stands.kernel) reached.kernel;
        consistent = consistent_after w p (step_effect_in w p) stands.consistent;
        processes = takes;
      }

module _ (t : Store) (start : WorldState) (searched : IsSearched start t) where
  -- the same where each step has an edge
  call_stands : (w : WorldState) (p : ℕ) (x : Process) (s : Place) → slice_get w.processes p ≡ Some x → IsAtCall x → GoesOn (step_effect_in w p) → Stands t w s → StandsAfter t w p s
  call_stands w p x s a at goes stands =
      let edge = edge_from t s.at p s.advance searched.expanded stands.here (subst GoesOn (sym (standing_effect t w p x s a at stands)) goes) in
      let next = along_stands t w p x s a at stands edge in
      (next.0, next.1, inr next.2)

  -- after a step by which a process goes on
  pub step_stands : (w : WorldState) (p : ℕ) (s : Place) → GoesOn (step_effect_in w p) → Stands t w s → StandsAfter t w p s
  step_stands w p s effective stands = by (step_of w p)
    where
      by : StepOf w p → StandsAfter t w p s
      by (still e) = absurd (subst GoesOn e effective)
      by (by_itself m q a acts e) = let next = local_stands t w p m q s a acts stands in (next.0, next.1, inl next.2)
      by (by_call m c r a asks is e) = call_stands w p (Running m) s a (c, asks) effective stands
      by (by_answer m c r a is e) = call_stands w p (Waiting m c) s a tt effective stands

  -- before the first step
  pub start_stands : IsConsistent start.kernel → (s : Place) × Stands t start s × (length s.taken ≡ length start.processes)
  start_stands consistent = begins_stands t start searched.begins consistent
