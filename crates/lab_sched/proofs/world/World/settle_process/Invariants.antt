use Rattle.std.proofs.Common.{◌≡◌, ◌+◌, ◌-◌, ◌≤◌, length, replicate}
use Rattle.lab_sched.specs.Schedules.{steps_of, total_of}
use Rattle.lab_sched.specs.Settled.{report, IsAdded}
use Rattle.lab_sched.proofs.world.World.settle_process.Given as goal

abbrev pub invariant-loop-taken : goal.invariant-loop-taken
invariant-loop-taken l = record {
  added : IsAdded (report l.fn.self (steps_of l.fn.schedule) l.fn.entries.items) (replicate l.taken l.pid) (report l.self (steps_of l.schedule) l.entries.items);
  len : length l.self.processes ≡ length l.fn.self.processes;
  within : l.taken ≤ l.left;
  total : total_of l.schedule ≡ total_of l.fn.schedule + l.taken;
}

abbrev pub decreases-loop-taken : goal.decreases-loop-taken
decreases-loop-taken l = l.left - l.taken
