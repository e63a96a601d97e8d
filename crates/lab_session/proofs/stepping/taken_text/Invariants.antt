use Rattle.std.proofs.Common.{◌≡◌, ◌++◌, drop, replicate, string_bytes}
use Rattle.lab_sched.specs.Schedules.{steps_of}
use Rattle.lab_session.specs.Taken.{blocks_text}
use Rattle.lab_session.proofs.stepping.taken_text.Given as goal

-- the text so far, and that of the steps that aren't written yet and of the blocks that are left
abbrev pub invariant-loop-block : goal.invariant-loop-block
invariant-loop-block l =
    string_bytes l.text ++ blocks_text (replicate l.count l.pid ++ steps_of (drop l.block-index l.blocks)) ≡ string_bytes l.initial.text ++ blocks_text (steps_of l.blocks)
