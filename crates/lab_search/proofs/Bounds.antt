-- How many effective steps there can be, where each edge leads to a row with a greater number.
use Rattle.std.proofs.Common.{ℕ, ◌+◌, ◌-◌, ◌*◌, ◌<◌, ◌≤◌, ◌≡◌, List, [], ◌∷◌, Option, Some, None, sym, ap, subst, ◌∙◌, arith, length, slice_get, refl, inl, inr, ◌⊎◌}
use Rattle.lab_sched.specs.Worlds.{WorldState, step_effect_in, step}
use Rattle.lab_sched.specs.Execution.{AreEffective}
use Rattle.ipc_kernel.specs.Alike.{IsConsistent}
use Rattle.lab_search.specs.declared.store.Store.{Store}
use Rattle.lab_worlds.specs.Unwaiting.{GoesOn, unwaiting, AskAgain}
use Rattle.lab_search.specs.Stored.{IsSearched}
use Rattle.lab_worlds.specs.Lassos.{AreBounded}
use Rattle.lab_states.specs.Rising.{IsRising, Rises, AreRising}
use Rattle.lab_worlds.proofs.Pushes.{all_at}
use Rattle.lab_search.proofs.StandingWorlds.{Place, Stands, GoesNearer, GoesAlong, measure, nearer_falls, along_falls, running, running_goes, running_waits, step_stands, start_stands}
use Rattle.lab_worlds.proofs.UnwaitingWorlds.{tells, same_step, still_unwaiting, goes_unwaiting, asks_on}

-- so many steps may follow a row with such a number
abbrev pub rank : ℕ → Option ℕ → ℕ
rank n None = 0
rank n (Some a) = n - a

-- at most so many steps may follow where a world stands
abbrev pub left_at : List ℕ → Place → ℕ
left_at order s = measure (λ i. rank (length order) (slice_get order i)) s

-- at most n steps by which a process goes on may follow the world
abbrev HasLeft : Store → List ℕ → WorldState → ℕ → Type 0
HasLeft t order w n = (s : Place) × Stands t w s × (left_at order s ≡ n)

-- so many steps fewer may follow after either
pub next_less : (t : Store) (order : List ℕ) → Rises order t.edges → (s u : Place) (p : ℕ) → GoesNearer s u p ⊎ GoesAlong t s u p → left_at order u < left_at order s
next_less t order rises s u p (inl near) = nearer_falls (λ i. rank (length order) (slice_get order i)) s u p near
next_less t order rises s u p (inr h) =
    let rise = all_at (IsRising order) t.edges h.0 h.1 rises h.3 in
    let from = ap (rank (length order)) (ap (λ i. slice_get order i) (sym h.4) ∙ rise.from) in
    let to = ap (rank (length order)) (ap (λ i. slice_get order i) (sym h.5) ∙ rise.to) in
    let less = rise.less in
    let within = rise.within in
    along_falls (λ i. rank (length order) (slice_get order i)) t s u p (omega (arith, from, to, less, within)) h

module _ (t : Store) (order : List ℕ) (start : WorldState) (searched : IsSearched start t) (rises : Rises order t.edges) where
  step_left : (w : WorldState) (p n : ℕ) → GoesOn (step_effect_in w p) → HasLeft t order w n → (j : ℕ) × (j < n) × HasLeft t order (step w p) j
  step_left w p n effective left =
      let next = step_stands t start searched w p left.0 effective left.1 in
      let less = next_less t order rises left.0 next.0 p next.2 in
      (left_at order next.0, subst (λ n. left_at order next.0 < n) left.2 less, (next.0, next.1, refl))

  -- a step by which a process goes on leaves less where none has begun to wait, and one process more
  -- may begin to; another step is the beginning of a wait
  within : (ps : List ℕ) (w : WorldState) (n : ℕ) → AskAgain w → HasLeft t order (unwaiting w) n → AreEffective w ps → length ps ≤ 2 * n + running w
  within [] w n asks left h = omega arith
  within (p ∷ ps) w n asks left h = elim (tells (step_effect_in w p)) [
    | inl goes ↦
        let next = step_left (unwaiting w) p n (subst GoesOn (sym (same_step w p asks goes)) goes) left in
        let rest = within ps (step w p) next.0 (asks_on w p asks) (subst (λ x. HasLeft t order x next.0) (sym (goes_unwaiting w p asks goes)) next.2) h.1 in
        let less = next.1 in
        let most = running_goes w p in
        omega (arith, less, most, rest)
    | inr none ↦
        let rest = within ps (step w p) n (asks_on w p asks) (subst (λ x. HasLeft t order x n) (sym (still_unwaiting w p none)) left) h.1 in
        let fewer = running_waits w p h.0 none in
        omega (arith, fewer, rest)
  ]

  bounded : IsConsistent start.kernel → AskAgain start → unwaiting start ≡ start → AreBounded start
  bounded consistent asks same =
      let initial = start_stands t start searched consistent in
      let n = left_at order initial.0 in
      (2 * n + running start, λ ps h. within ps start n asks (subst (λ x. HasLeft t order x n) (sym same) (initial.0, initial.1, refl)) h)

-- where the rows are searched, and all edges rise, each list of effective steps has at most so many
pub searched_bounded : (t : Store) (start : WorldState) → IsConsistent start.kernel → AskAgain start → unwaiting start ≡ start → IsSearched start t → AreRising t.edges → AreBounded start
searched_bounded t start consistent asks same searched rising = bounded t rising.0 start searched rising.1 consistent asks same
