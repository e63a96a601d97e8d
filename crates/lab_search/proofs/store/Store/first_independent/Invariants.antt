use Rattle.std.proofs.Common.{◌≡◌, Some, slice_get}
use Rattle.lab_search.proofs.store.Store.first_independent.Given as goal

abbrev pub invariant-loop-pid : goal.invariant-loop-pid
invariant-loop-pid l = slice_get l.self.rows l.at ≡ Some (record { kernel = l.kernel; states = l.states })
