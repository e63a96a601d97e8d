use Rattle.std.proofs.Common.{ap, ◌≡◌, [], drop, get_or, arith}
use Rattle.std.proofs.lemmas.List.{drop_all, drop_more}
use Rattle.lab_sched.specs.declared.schedule.Block.{Block}
use Rattle.lab_sched.specs.Schedules.{steps_of}
use Rattle.lab_session.proofs.PlayLemmas.{stop-yes, stop-no, block-on, block-met, blocks-start, blocks-done}
use Rattle.lab_session.proofs.stepping.advance.Goals as goal

pub loop-block-init : goal.loop-block-init
loop-block-init c = blocks-start c.args.marks.now c.args.world.now c.args.blocks.now _ _ c.new-steps.ensures.items c.new-effective.ensures.items

-- a block that comes to a stop
pub returns-then-stops : goal.returns-then-stops
returns-then-stops c =
    let none : Block = record { pid = 0; count = 0 } in
    let b = get_or c.args.blocks.now c.loop-block.block-index none in
    let cut = drop_more c.args.blocks.now c.loop-block.block-index none c.loop-block-test.true in
    let met = stop-yes c.in_ok-acted.stops b.pid _ c.in_ok-acted.ensures.stop c.if-stops.true in
    let all = block-met c.args.marks.now c.loop-block.world _ b _ _ (steps_of c.loop-block.steps.items) (steps_of c.loop-block.effective.items) _ _ c.in_ok-acted.acted _
    cut met c.in_ok-acted.ensures.steps c.in_ok-acted.ensures.world c.in_ok-push_steps-2.ensures.steps c.in_ok-push_steps.ensures.steps c.loop-block.invariant in
    record {
      steps = ap (λ t. t.0) all;
      effective = ap (λ t. t.1) all;
      stopped = ap (λ t. t.2) all;
      world = ap (λ t. t.3) all;
    }

-- a block that comes to none
pub loop-block-preserved : goal.loop-block-preserved
loop-block-preserved c =
    let none : Block = record { pid = 0; count = 0 } in
    let b = get_or c.args.blocks.now c.loop-block.block-index none in
    let cut = drop_more c.args.blocks.now c.loop-block.block-index none c.loop-block-test.true in
    let on = stop-no c.in_ok-acted.stops b.pid _ c.in_ok-acted.ensures.stop c.if-stops.false in
    block-on c.args.marks.now c.loop-block.world _ b _ _ (steps_of c.loop-block.steps.items) (steps_of c.loop-block.effective.items) _ _ c.in_ok-acted.acted _
    cut on c.in_ok-acted.ensures.steps c.in_ok-acted.ensures.world c.in_ok-push_steps-3.ensures.steps c.in_ok-push_steps.ensures.steps c.loop-block.invariant

pub returns : goal.returns
returns c =
    let none : drop c.loop-block.block-index c.args.blocks.now ≡ [] = drop_all c.loop-block.block-index c.args.blocks.now (omega (arith, c.loop-block-test.false)) in
    let all = blocks-done c.args.marks.now c.loop-block.world _ _ _ _ none c.loop-block.invariant in
    record {
      steps = ap (λ t. t.0) all;
      effective = ap (λ t. t.1) all;
      stopped = ap (λ t. t.2) all;
      world = ap (λ t. t.3) all;
    }
