use Rattle.std.proofs.Common.{◌≡◌, take, set}
use Rattle.ipc_store.proofs.arranging.are_with.Given as goal

abbrev pub invariant-loop-at : goal.invariant-loop-at
invariant-loop-at l = take l.at l.numbers ≡ take l.at (set l.others l.place l.number)
