use Rattle.std.proofs.Common.{rules}
use Rattle.lab_worlds.proofs.UnwaitingWorlds.{same_unwaiting}
use Rattle.lab_worlds.proofs.walking.none_waits.Goals as goal

pub returns : goal.returns
returns c = search (rules, same_unwaiting, c.args.world.now, c.loop-pid.pid, c.loop-pid.invariant)
