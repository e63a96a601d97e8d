use Rattle.std.proofs.Common.{ℕ, ◌<◌, ◌≡◌, Some, slice_get}
use Rattle.lab_sched.specs.Worlds.{WorldState}
use Rattle.lab_worlds.specs.Independent.{KeepsTo}
use Rattle.lab_search.specs.Stored.{IsAt}
use Rattle.lab_search.proofs.store.Store.keep_to_at.Given as goal

abbrev pub invariant-loop-pid : goal.invariant-loop-pid
invariant-loop-pid l = record {
  row : slice_get l.self.rows l.at ≡ Some (record { kernel = l.kernel; states = l.states });
  keep : (w : WorldState) → IsAt l.self l.at w → (p : ℕ) → p < l.pid → KeepsTo l.uses w p;
}
