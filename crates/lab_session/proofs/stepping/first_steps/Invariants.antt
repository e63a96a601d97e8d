use Rattle.std.proofs.Common.{◌≡◌, ◌++◌, drop, take}
use Rattle.lab_sched.specs.Schedules.{steps_of}
use Rattle.lab_session.proofs.stepping.first_steps.Given as goal

-- the steps so far and those of the blocks that are left are the first ones
abbrev pub invariant-loop-block : goal.invariant-loop-block
invariant-loop-block l = steps_of l.first.items ++ take l.left (steps_of (drop l.block-index l.blocks)) ≡ take l.most (steps_of l.blocks)
