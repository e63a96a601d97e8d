use Rattle.std.proofs.Common.{◌≡◌, take}
use Rattle.ipc_objects.proofs.messages.Bucket.copy.Given as goal

abbrev pub invariant-loop-i : goal.invariant-loop-i
invariant-loop-i l = l.later.items ≡ take l.i l.self-inside.later.items
