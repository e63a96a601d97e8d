use Rattle.std.proofs.Common.{◌≡◌, ◌+◌, drop, length}
use Rattle.lab_sched.specs.Schedules.{steps_of}
use Rattle.lab_session.proofs.stepping.step_count.Given as goal

-- the steps that are counted and those of the blocks that are left are all of them
abbrev pub invariant-loop-block : goal.invariant-loop-block
invariant-loop-block l = l.count + length (steps_of (drop l.block-index l.blocks)) ≡ length (steps_of l.blocks)
