use Rattle.std.proofs.Common.{arith, rules}
use Rattle.ipc_objects.proofs.QueueCopies.{same_more, told_equal}
use Rattle.ipc_objects.proofs.queue.copies.QueuePartialEq.eq.Goals as goal

pub loop-i-preserved : goal.loop-i-preserved
loop-i-preserved c = search (rules, same_more)

pub returns : goal.returns
returns c = told_equal c.args.self.now c.args.other.now c.loop-i.i (grind arith) (grind arith) (grind arith) (grind arith) c.loop-i.invariant
