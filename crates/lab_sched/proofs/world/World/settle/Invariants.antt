use Rattle.std.proofs.Common.{◌≡◌, ◌+◌, ◌≤◌, length, sum}
use Rattle.lab_sched.specs.Schedules.{steps_of, total_of, most_steps}
use Rattle.lab_sched.specs.Settled.{report, IsSettled}
use Rattle.lab_sched.proofs.world.World.settle.Given as goal

abbrev pub invariant-loop-self : goal.invariant-loop-self
invariant-loop-self l = record {
  settled : IsSettled (report l.fn.self (steps_of l.fn.schedule) l.fn.entries.items) (report l.self (steps_of l.schedule) l.entries.items) l.fn.left l.left;
  len : length l.left ≡ length l.self.processes;
  room : total_of l.schedule + sum l.left ≤ most_steps;
}

abbrev pub decreases-loop-self : goal.decreases-loop-self
decreases-loop-self l = sum l.left
