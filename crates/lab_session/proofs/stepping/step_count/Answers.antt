use Rattle.std.proofs.Common.{rules, ap, ◌∙◌, ◌+◌, ◌≡◌, [], drop, get_or, length, arith}
use Rattle.std.proofs.lemmas.List.{drop_all, drop_more}
use Rattle.lab_sched.specs.declared.schedule.Block.{Block}
use Rattle.lab_sched.specs.Schedules.{steps_of}
use Rattle.lab_session.proofs.BlockLemmas.{count-more, count-none}
use Rattle.lab_session.proofs.stepping.step_count.Goals as goal

pub loop-block-preserved : goal.loop-block-preserved
loop-block-preserved c =
    let none : Block = record { pid = 0; count = 0 } in
    let b = get_or c.args.blocks.now c.loop-block.block-index none in
    let rest = drop (c.loop-block.block-index + 1) c.args.blocks.now in
    let cut = drop_more c.args.blocks.now c.loop-block.block-index none c.loop-block-test.true in
    let sum : c.in-Some.sum ≡ c.loop-block.count + b.count = search rules in
    ap (λ n. n + length (steps_of rest)) sum ∙ count-more b _ rest c.loop-block.count _ cut c.loop-block.invariant

pub returns : goal.returns
returns c =
    let none : drop c.loop-block.block-index c.args.blocks.now ≡ [] = drop_all c.loop-block.block-index c.args.blocks.now (omega (arith, c.loop-block-test.false)) in
    record { count = count-none _ c.loop-block.count _ none c.loop-block.invariant }
