use Rattle.std.proofs.Common.{rules}
use Rattle.lab_worlds.proofs.WalkLemmas.{same_below}
use Rattle.lab_worlds.proofs.ahead.are_alike.Goals as goal

pub returns : goal.returns
returns c = search (rules, same_below, c.args.world.now, c.args.other.now, c.count.ensures.count, c.count-2.ensures.count, c.if-count.false, c.count-pid-end.ensures.count, c.loop-pid-test.false, c.count-pid-end.result, c.loop-pid.invariant, c.kernel.ensures.kernel, c.kernel.result.now, c.kernel-else-count.ensures.kernel)
