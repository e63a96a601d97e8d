use Rattle.std.proofs.Common.{◌≡◌, take}
use Rattle.ipc_objects.proofs.queue.copies.QueuePartialEq.eq.Given as goal

abbrev pub invariant-loop-i : goal.invariant-loop-i
invariant-loop-i l = take l.i l.self.messages ≡ take l.i l.other.messages
