use Rattle.std.proofs.Common.{ℕ, List, ◌≡◌, ◌∷◌, map, take}
use Rattle.lab_sched.specs.Held.{process_view}
use Rattle.lab_search.specs.Stored.{IsKernel}
use Rattle.lab_search.specs.Private.Stored.{IsLater, AreInitialStates}
use Rattle.lab_search.proofs.store.Store.begin.Given as goal

abbrev pub invariant-loop-process : goal.invariant-loop-process
invariant-loop-process l = record {
  later : IsLater l.fn.self l.self;
  kernel : IsKernel l.self l.number l.kernel;
  row : (states : List ℕ) × (l.row.items ≡ l.number ∷ states) × AreInitialStates l.self states (map process_view (take l.process-index l.processes));
}
