use Rattle.std.proofs.Common.{◌∙◌, ◌++◌, append-nil, append_assoc, ap, arith, get_or, replicate, sym, take}
use Rattle.std.proofs.lemmas.List.Sums.{sum_by_more}
use Rattle.lab_sched.specs.declared.schedule.Block.{Block}
use Rattle.lab_sched.specs.Schedules.{steps_of}
use Rattle.lab_sched.proofs.ScheduleRuns.{steps_of-none, steps-more}
use Rattle.lab_questions.proofs.failure.push_blocks.Goals as goal

pub loop-block-init : goal.loop-block-init
loop-block-init c =
    let steps = steps_of c.args.schedule.now in
    (sym (append-nil steps) ∙ ap (λ l. steps ++ l) (sym steps_of-none), omega arith)

pub loop-block-preserved : goal.loop-block-preserved
loop-block-preserved c =
    let at = c.loop-block in
    let none : Block = record { pid = 0; count = 0 } in
    let b : Block = get_or c.args.blocks.now at.block-index none in
    let olds = steps_of c.args.schedule.now in
    let total = c.in_ok-push.ensures.total in
    let before = at.invariant.1 in
    let more = sum_by_more (λ (b : Block). b.count) c.args.blocks.now at.block-index none c.loop-block-test.true in (
      c.in_ok-push.ensures.steps ∙ ap (λ l. l ++ replicate b.count b.pid) at.invariant.0
          ∙ append_assoc olds (steps_of (take at.block-index c.args.blocks.now)) (replicate b.count b.pid)
          ∙ ap (λ l. olds ++ l) (sym (steps-more c.args.blocks.now at.block-index none c.loop-block-test.true)),
      omega (arith, total, before, more),
    )
