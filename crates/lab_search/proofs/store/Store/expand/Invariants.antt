use Rattle.std.proofs.Common.{ℕ, ◌<◌, IsTrue}
use Rattle.lab_sched.specs.Worlds.{WorldState}
use Rattle.lab_search.specs.Stored.{IsAt, HasEdgeIfEnabled}
use Rattle.lab_search.specs.Private.Stored.{IsLater}
use Rattle.lab_search.proofs.store.Store.expand.Given as goal

abbrev pub invariant-loop-pid : goal.invariant-loop-pid
invariant-loop-pid l = record {
  later : IsLater l.fn.self l.self;
  expanded_in : IsTrue l.whole → (w : WorldState) → IsAt l.fn.self l.at w → (p : ℕ) → p < l.pid → HasEdgeIfEnabled l.self l.at w p;
}
