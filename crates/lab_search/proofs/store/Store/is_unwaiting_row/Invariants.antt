use Rattle.std.proofs.Common.{ℕ, ◌<◌, slice_get}
use Rattle.lab_worlds.specs.Calls.{Both}
use Rattle.lab_worlds.specs.Unwaiting.{unwaiting}
use Rattle.lab_search.specs.Stored.{IsState}
use Rattle.lab_search.proofs.store.Store.is_unwaiting_row.Given as goal

abbrev pub invariant-loop-pid : goal.invariant-loop-pid
invariant-loop-pid l = (p : ℕ) → p < l.pid → Both (IsState l.self) (slice_get l.states p) (slice_get (unwaiting l.world).processes p)
