use Rattle.ipc_kernel.proofs.PlaceLemmas.{EmptiedBelow}
use Rattle.ipc_kernel.proofs.places.empty_unused_in.Given as goal

abbrev pub invariant-loop-i : goal.invariant-loop-i
invariant-loop-i l = EmptiedBelow l.processes l.initial.places.items l.places.items l.i
