use Rattle.std.proofs.Common.{ℕ, ◌≡◌, Some, slice_get}
use Rattle.lab_sched.specs.Worlds.{WorldState}
use Rattle.lab_worlds.specs.Independent.{HaveEnded}
use Rattle.lab_search.specs.Stored.{IsAt}
use Rattle.lab_search.proofs.store.Store.ended_at.Given as goal

abbrev pub invariant-loop-pid : goal.invariant-loop-pid
invariant-loop-pid l = record {
  row : (k : ℕ) × (slice_get l.self.rows l.at ≡ Some (record { kernel = k; states = l.states }));
  ended : (w : WorldState) → IsAt l.self l.at w → HaveEnded w l.ended.items;
}
