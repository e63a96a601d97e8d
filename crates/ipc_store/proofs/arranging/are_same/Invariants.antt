use Rattle.std.proofs.Common.{◌≡◌, take}
use Rattle.ipc_store.proofs.arranging.are_same.Given as goal

abbrev pub invariant-loop-at : goal.invariant-loop-at
invariant-loop-at l = take l.at l.numbers ≡ take l.at l.others
