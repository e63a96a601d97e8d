use Rattle.std.proofs.Common.{◌≡◌, map, take}
use Rattle.lab_conditions.specs.Losses.{messages}
use Rattle.lab_explore.proofs.reached.messages.Given as goal

abbrev pub invariant-loop-number : goal.invariant-loop-number
invariant-loop-number l = l.counts.items ≡ map messages (take l.number l.store.kernels.kernels)
