use Rattle.std.proofs.Common.{ℕ, ◌<◌, IsTrue}
use Rattle.lab_search.specs.Reduced.{IsExpandedIn}
use Rattle.lab_search.specs.Private.Stored.{IsLater}
use Rattle.lab_search.proofs.store.Store.expand_all.Given as goal

abbrev pub invariant-loop-at : goal.invariant-loop-at
invariant-loop-at g l = record {
  later : IsLater l.fn.self l.self;
  all : IsTrue l.whole → (i : ℕ) → i < l.at → IsExpandedIn l.reduced l.uses l.self i;
}
