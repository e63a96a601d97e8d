use Rattle.ipc_traps.proofs.Ranges.{IsWithoutEnd}
use Rattle.ipc_traps.proofs.reading.name_length.Given as goal

abbrev pub invariant-loop-k : goal.invariant-loop-k
invariant-loop-k l = IsWithoutEnd l.machine.process.memory l.at l.k
