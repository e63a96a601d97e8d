use Rattle.std.proofs.Common.{◌≡◌, ◌+◌, ◌++◌, take}
use Rattle.lab_sched.specs.Schedules.{steps_of, total_of}
use Rattle.lab_questions.proofs.failure.push_blocks.Given as goal

-- the steps so far are added
abbrev pub invariant-loop-block : goal.invariant-loop-block
invariant-loop-block l =
    (steps_of l.schedule ≡ steps_of l.initial.schedule ++ steps_of (take l.block-index l.blocks))
    × (total_of l.schedule ≡ total_of l.initial.schedule + total_of (take l.block-index l.blocks))
