use Rattle.std.proofs.Common.{◌∷◌, flat_map, take}
use Rattle.std.specs.Fmt.{HasWritten, IsPlainFormatter}
use Rattle.lab_sched.specs.ScheduleTexts.{block_text}
use Rattle.lab_sched.proofs.schedule.StepsDisplay.fmt.Given as goal

-- the blocks so far are written
abbrev pub invariant-loop-block : goal.invariant-loop-block
invariant-loop-block g l =
    IsPlainFormatter l.initial.f → HasWritten g.W.Write.write_str_gives l.initial.f (flat_map (λ c. 32 ∷ block_text c) (take l.block-index l.rest)) l.f
