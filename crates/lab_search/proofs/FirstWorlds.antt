-- The first world of a search, and what the whole search holds.
use Rattle.std.proofs.Common.{ℕ, suc, arith, ◌≡◌, ◌<◌, ◌≤◌, ◌+◌, ◌++◌, List, [], ◌∷◌, Option, Some, None, refl, sym, ap, subst, ◌∙◌, slice_get, length, map, take, get_or, rules}
use Rattle.std.proofs.lemmas.List.{map-append, take_all, take_more}
use Rattle.std.specs.Option.{option_map}
use Rattle.ipc_kernel.specs.Kernel.{KernelState}
use Rattle.lab_sched.specs.declared.process.Process.{Process as Kept}
use Rattle.lab_sched.specs.Worlds.{Process, WorldState, step_effect_in, step}
use Rattle.lab_sched.specs.Held.{process_view}
use Rattle.lab_sched.proofs.ListPlaces.{get_past}
use Rattle.lab_states.specs.Rows.{Row}
use Rattle.lab_search.specs.declared.store.Store.{Store}
use Rattle.lab_worlds.specs.Calls.{IsAhead, Both, Alongside, IsAdvance}
use Rattle.lab_worlds.specs.Closed.{HasAdvance}
use Rattle.lab_worlds.specs.Unwaiting.{GoesOn, unwaiting}
use Rattle.lab_search.specs.Stored.{IsState, IsKernel, IsRow, IsAt, HasEdge, IsExpanded, AreExpanded, IsSearched}
use Rattle.lab_search.specs.Private.Stored.{Grows, IsLocalSuccessor, AreInitialStates}
use Rattle.lab_worlds.specs.Stepped.{IsReached, AreReached}
use Rattle.lab_worlds.proofs.AfterLocalSteps.{same_by_gets, same_some}
use Rattle.lab_states.specs.Depths.{depth_of, IsNear, AreDepths}
use Rattle.lab_worlds.proofs.HeldAdvances.{AreLevels}
use Rattle.lab_worlds.proofs.Pushes.{alongside_cons, alongside_push, both_weaker, all_at}
use Rattle.lab_search.proofs.Growths.{state_grows}

pub successor_grows : (t u : Store) (i : ℕ) (s : Process) → Grows t u → IsLocalSuccessor t i s → IsLocalSuccessor u i s
successor_grows t u i s g h = (h.0, state_grows t u i h.0 g h.1, h.2)

pub initial_grows : (t u : Store) (is : List ℕ) (ss : List Process) → Grows t u → AreInitialStates t is ss → AreInitialStates u is ss
initial_grows t u is ss g h p = both_weaker (IsLocalSuccessor t) (IsLocalSuccessor u) (λ i s. successor_grows t u i s g) (slice_get is p) (slice_get ss p) (h p)

-- one process more
pub initial_more : (t u : Store) (is : List ℕ) (ps : List Kept) (n i : ℕ) (k : Kept) → Grows t u → AreInitialStates t is (map process_view (take n ps)) → n < length ps → k ≡ get_or ps n k
    → IsLocalSuccessor u i (process_view k) → AreInitialStates u (is ++ i ∷ []) (map process_view (take (n + 1) ps))
initial_more t u is ps n i k g h within read successor =
    let more : map process_view (take (n + 1) ps) ≡ map process_view (take n ps) ++ process_view k ∷ [] =
    ap (map process_view) (take_more ps n k within ∙ ap (λ x. take n ps ++ x ∷ []) (sym read)) ∙ map-append process_view (take n ps) (k ∷ []) in
    subst (λ ss. AreInitialStates u (is ++ i ∷ []) ss) (sym more) (alongside_push (IsLocalSuccessor u) is (map process_view (take n ps)) i (process_view k) (initial_grows t u is (map process_view (take n ps)) g h) successor)

-- the states that the processes begin with
chosen : (t : Store) (is : List ℕ) (ss : List Process) → AreInitialStates t is ss → (us : List Process) × Alongside (IsState t) is us × Alongside IsAhead ss us
chosen t [] [] h = ([], λ p. tt, λ p. tt)
chosen t (i ∷ is) (s ∷ ss) h =
    let first : IsLocalSuccessor t i s = h 0 in
    let rest = chosen t is ss (λ p. h (suc p)) in
    (first.0 ∷ rest.0, alongside_cons (IsState t) i first.0 is rest.0 first.1 rest.1, alongside_cons IsAhead s first.0 ss rest.0 first.2 rest.2)
chosen t _ _ h = absurd (h 0)

-- the world at its first calls, by its row
pub begins_row : (t : Store) (kernel : ℕ) (states : List ℕ) (k : KernelState) (ps : List Kept) (n : ℕ) → length ps ≤ n → IsKernel t kernel k → AreInitialStates t states (map process_view (take n ps))
    → (v : WorldState) × IsRow t (record { kernel = kernel; states = states }) v × IsAdvance (record { processes = map process_view ps; kernel = k }) v
begins_row t kernel states k ps n past here initial =
    let us = chosen t states (map process_view ps) (subst (λ xs. AreInitialStates t states (map process_view xs)) (take_all n ps past) initial) in
    (record { processes = us.0; kernel = here.0 }, record { kernel = here.1; settled = here.3; states = us.1 }, record { kernel = here.2; processes = us.2 })

same_state : (t : Store) (o : Option ℕ) (a b : Option Process) → Both (IsState t) o a → Both (IsState t) o b → a ≡ b
same_state t None None None h k = refl
same_state t (Some i) (Some x) (Some y) h k = ap (λ z. Some z) (same_some x y (option_map process_view (slice_get t.states.processes i)) h k)
same_state t _ _ _ h k = search rules

-- a row stands for one world
pub row_unique : (t : Store) (r : Row) (w v : WorldState) → IsRow t r w → IsRow t r v → w ≡ v
row_unique t r w v h k =
    let processes : w.processes ≡ v.processes = same_by_gets w.processes v.processes (λ p. same_state t (slice_get r.states p) (slice_get w.processes p) (slice_get v.processes p) (h.states p) (k.states p)) in
    let kernel : w.kernel ≡ v.kernel = same_some w.kernel v.kernel (slice_get t.kernels.kernels r.kernel) h.kernel k.kernel in
    ap (λ ps. record { processes = ps; kernel = w.kernel }) processes ∙ ap (λ x. record { processes = v.processes; kernel = x }) kernel

-- the row of a world
pub row_at : (t : Store) (i : ℕ) (r : Row) (w : WorldState) → slice_get t.rows i ≡ Some r → IsAt t i w → IsRow t r w
row_at t i r w there here = subst (λ x. IsRow t x w) (same_some here.0 r (slice_get t.rows i) here.1 there) here.2

pub at_unique : (t : Store) (i : ℕ) (w v : WorldState) → IsAt t i w → IsAt t i v → w ≡ v
at_unique t i w v h k = row_unique t k.0 w v (row_at t i k.0 w k.1 h) k.2

-- a step by which a process goes on from the world of a row has an edge
pub edge_at : (t : Store) (i p : ℕ) (w : WorldState) → IsExpanded t i → IsAt t i w → GoesOn (step_effect_in w p) → HasEdge t i w p
edge_at t i p w done here goes =
    let is : w ≡ done.0 = at_unique t i w done.0 here done.1 in
    subst (λ v. HasEdge t i v p) (sym is) (done.2 p (subst (λ v. GoesOn (step_effect_in v p)) is goes))

pub edge_from : (t : Store) (i p : ℕ) (w : WorldState) → AreExpanded t → IsAt t i w → GoesOn (step_effect_in w p) → HasEdge t i w p
edge_from t i p w expanded here = edge_at t i p w (expanded i (get_past t.rows i here.0 here.1)) here

-- what is reached is an advance
pub reached_advance : (w v : WorldState) → AreReached w v → IsAdvance w v
reached_advance w v h = record {
  kernel = h.kernel;
  processes = λ p. both_weaker IsReached IsAhead (λ s u r. r.ahead) (slice_get w.processes p) (slice_get v.processes p) (h.processes p);
}

-- the rows of at most this depth
abbrev pub AreAtDepth : Store → List ℕ → ℕ → WorldState → Type 0
AreAtDepth t depths n v = (i : ℕ) × IsAt t i v × (depth_of depths i ≤ n)

-- where each row was expanded, they are levels of worlds
pub all_levels : (t : Store) (start : WorldState) (depths : List ℕ) → unwaiting start ≡ start → IsSearched start t → AreDepths depths t.edges → AreLevels start (AreAtDepth t depths)
all_levels t start depths same searched deep = record {
  begins =
      let first = searched.begins in
      let least = deep.first in
      subst (HasAdvance (AreAtDepth t depths 0)) (sym same) (first.0, (0, first.1, omega arith), first.2);
  goes_on = λ n v p held effective.
      let edge = edge_from t held.0 p v searched.expanded held.1 effective in
      let near : depth_of depths edge.1.to ≤ depth_of depths edge.1.from + 1 = all_at (IsNear depths) t.edges edge.0 edge.1 deep.near edge.3 in
      let from : depth_of depths edge.1.from ≡ depth_of depths held.0 = ap (depth_of depths) edge.4 in
      let few = held.2 in
      (edge.2, (edge.1.to, edge.5, omega (arith, near, from, few)), reached_advance (step v p) edge.2 edge.6);
}
