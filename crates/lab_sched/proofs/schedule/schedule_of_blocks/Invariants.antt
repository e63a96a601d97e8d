use Rattle.std.proofs.Common.{◌≡◌, ◌+◌, take, drop}
use Rattle.lab_sched.specs.Schedules.{joined_blocks, total_of}
use Rattle.lab_sched.specs.ScheduleTexts.{too_long}
use Rattle.lab_sched.proofs.schedule.schedule_of_blocks.Given as goal

abbrev pub invariant-loop-i : goal.invariant-loop-i
invariant-loop-i l = record {
  made : l.schedule ≡ joined_blocks (take l.i l.blocks);
  rest : too_long 1 0 l.blocks ≡ too_long (l.i + 1) (total_of l.schedule) (drop l.i l.blocks);
}
