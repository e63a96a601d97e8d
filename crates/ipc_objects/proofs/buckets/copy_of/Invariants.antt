use Rattle.std.proofs.Common.{◌≡◌, ◌++◌}
use Rattle.ipc_objects.proofs.buckets.copy_of.Given as goal

abbrev pub invariant-loop-priority : goal.invariant-loop-priority
invariant-loop-priority l = l.copy.entries ++ l.priority-iterator ≡ l.buckets.entries
