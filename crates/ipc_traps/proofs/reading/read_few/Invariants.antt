use Rattle.std.proofs.Common.{◌≡◌}
use Rattle.ipc_traps.specs.Names.{words_at}
use Rattle.ipc_traps.proofs.reading.read_few.Given as goal

abbrev pub invariant-loop-k : goal.invariant-loop-k
invariant-loop-k l = l.words ≡ words_at l.machine.process.memory l.at l.k
