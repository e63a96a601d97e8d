-- Where rows are tried by one independent step alone, and each edge leads to a row with a greater number: how many steps there can be.
use Rattle.std.proofs.Common.{ℕ, ◌+◌, ◌*◌, ◌≤◌, ◌≡◌, arith, true, List, ap, subst, length}
use Rattle.ipc_kernel.specs.Alike.{IsConsistent}
use Rattle.ipc_kernel.specs.Operands.{are_named}
use Rattle.lab_sched.specs.Worlds.{WorldState}
use Rattle.lab_search.specs.declared.store.Store.{Store}
use Rattle.lab_worlds.specs.Unwaiting.{unwaiting, AskAgain}
use Rattle.lab_worlds.specs.Lassos.{AreBounded}
use Rattle.lab_states.specs.Rising.{Rises, AreRising}
use Rattle.lab_search.specs.Reduced.{IsSearchedByReduction}
use Rattle.lab_search.proofs.Bounds.{left_at, next_less}
use Rattle.lab_worlds.proofs.OnwardSteps.{AreOnward}
use Rattle.lab_search.proofs.StandingWorlds.{running, begins_stands}
use Rattle.lab_search.proofs.ReducedPaths.{Path, IsPath, by_steps}
use Rattle.lab_search.proofs.ReducedEnds.{onward_of}

-- there are no more steps than may follow where the world stands
few : (t : Store) (start : WorldState) → IsSearchedByReduction start t → (order : List ℕ) → Rises order t.edges
    → (c : Path) → IsPath t c → length c.steps ≤ left_at order c.place
few t start searched order rises = by_steps t start searched (λ c. length c.steps ≤ left_at order c.place) (record {
  ends = λ c g like none. let size = ap length none in omega (arith, size);
  fronts = λ c p g next f rest.
      let less = next_less t order rises c.place next.after.0 p next.after.2 in
      let size = f.shorter in
      omega (arith, less, rest, size);
  passes = λ c g a f rest. let less = next_less t order rises c.place a.next.after.0 a.process a.next.after.2 in omega (arith, less, rest);
})

-- where the rows are so searched, and all edges rise, each list of effective steps has at most so many
pub by_reduction_bounded : (t : Store) (start : WorldState) → IsConsistent start.kernel → AskAgain start → unwaiting start ≡ start
    → are_named start.kernel.places ≡ true → IsSearchedByReduction start t → AreRising t.edges → AreBounded start
by_reduction_bounded t start consistent asks first named searched rising =
    let initial = begins_stands t start searched.begins consistent in (
      2 * left_at rising.0 initial.0 + running start,
      λ ps effective.
          let h = onward_of ps start asks in
          let onward = subst (λ v. AreOnward v h.steps) first h.onward in
          let path : IsPath t (record { world = start; place = initial.0; steps = h.steps }) = record { stands = initial.1; named = named; onward = onward } in
          let most = few t start searched rising.0 rising.1 (record { world = start; place = initial.0; steps = h.steps }) path in
          let long = h.long effective in
          omega (arith, most, long),
    )
