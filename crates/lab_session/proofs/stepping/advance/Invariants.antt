use Rattle.std.proofs.Common.{◌≡◌, drop}
use Rattle.lab_sched.specs.Schedules.{steps_of}
use Rattle.lab_session.proofs.PlayLemmas.{came, after}
use Rattle.lab_session.proofs.stepping.advance.Given as goal

-- the steps so far and those of the blocks that are left come to what all come to
abbrev pub invariant-loop-block : goal.invariant-loop-block
invariant-loop-block l =
    after (steps_of l.steps.items) (steps_of l.effective.items) (came l.marks l.world (steps_of (drop l.block-index l.blocks))) ≡ came l.marks l.initial.world (steps_of l.blocks)
