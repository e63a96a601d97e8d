use Rattle.std.proofs.Common.{◌≡◌, ◌≤◌, ◌-◌, replicate}
use Rattle.lab_sched.specs.Worlds.{run}
use Rattle.lab_sched.proofs.world.World.run_steps.Given as goal

abbrev pub invariant-loop-left : goal.invariant-loop-left
invariant-loop-left l = record {
  world : l.self ≡ run l.fn.self (replicate (l.count - l.left) l.pid);
  within : l.left ≤ l.count;
}

abbrev pub decreases-loop-left : goal.decreases-loop-left
decreases-loop-left l = l.left
