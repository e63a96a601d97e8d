use Rattle.std.proofs.Common.{◌≡◌, ◌+◌, sum, take}
use Rattle.lab_sched.specs.Schedules.{total_of, most_steps}
use Rattle.lab_threads.proofs.reports.has_room.Given as goal

abbrev pub invariant-loop-steps : goal.invariant-loop-steps
invariant-loop-steps l = l.room + (total_of l.schedule + sum (take l.steps-index l.left)) ≡ most_steps
