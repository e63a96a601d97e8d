use Rattle.ipc_kernel.proofs.AssemblyLemmas.{SettledBelow}
use Rattle.ipc_kernel.proofs.places.assembly.are_used.Given as goal

abbrev pub invariant-loop-at : goal.invariant-loop-at
invariant-loop-at l = SettledBelow l.processes l.places l.at
