use Rattle.std.proofs.Common.{◌≡◌, ◌+◌, length, sum}
use Rattle.lab_sched.specs.Schedules.{steps_of, total_of}
use Rattle.lab_sched.specs.Settled.{report, IsSettled}
use Rattle.lab_sched.proofs.world.World.settle_round.Given as goal

abbrev pub invariant-loop-pid : goal.invariant-loop-pid
invariant-loop-pid l = record {
  settled : IsSettled (report l.fn.self (steps_of l.fn.schedule) l.fn.entries.items) (report l.self (steps_of l.schedule) l.entries.items) l.fn.left l.left;
  len : length l.left ≡ length l.self.processes;
  count : length l.self.processes ≡ length l.fn.self.processes;
  total : total_of l.schedule + sum l.left ≡ total_of l.fn.schedule + sum l.fn.left;
}
