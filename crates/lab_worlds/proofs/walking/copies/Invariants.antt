use Rattle.std.proofs.Common.{◌≡◌, take}
use Rattle.lab_worlds.proofs.walking.copies.Given as goal

abbrev pub invariant-loop-process : goal.invariant-loop-process
invariant-loop-process l = l.copies.items ≡ take l.process-index l.processes
