use Rattle.std.proofs.Common.{◌+◌, length, take, drop, suc, get_or, replicate, refl, sym, ap, ◌∙◌, arith, length-append}
use Rattle.std.proofs.lemmas.List.{length-replicate, take_all}
use Rattle.std.proofs.lemmas.Result.{err_from_is_err_and}
use Rattle.lab_sched.specs.Schedules.{block, steps_of}
use Rattle.lab_sched.proofs.ScheduleJoins.{length-steps}
use Rattle.lab_sched.proofs.ScheduleRuns.{steps_of-none, steps-more, steps-split, steps-among}
use Rattle.lab_told.specs.Scenes.{Scene, scene_at, scene_after}
use Rattle.lab_told.proofs.SceneLemmas.{scene-none, length-scene}
use Rattle.lab_told.proofs.TellingLemmas.{scene-then, told-then, breaks-then}
use Rattle.lab_told.proofs.telling.tell_run.Goals as goal

pub loop-block-init : goal.loop-block-init
loop-block-init g c =
    let s = scene_at 1 c.args.world.now c.args.tally.now in
    record {
      first = omega (arith, ap length steps_of-none);
      scene = sym (ap (scene_after s) steps_of-none ∙ scene-none s);
      told = rw steps_of-none refl;
      count = refl;
    }

pub tell_block-requires-clause-room : goal.tell_block-requires-clause-room
tell_block-requires-clause-room g c =
    let among = steps-among c.args.blocks.now c.loop-block.block-index (block 0 0) c.loop-block-test.true in
    omega (arith, among, length-steps c.args.blocks.now, c.requires.room, c.loop-block.invariant.first)

pub overflow_add-first : goal.overflow_add-first
overflow_add-first g c =
    let among = steps-among c.args.blocks.now c.loop-block.block-index (block 0 0) c.loop-block-test.true in
    omega (arith, among, length-steps c.args.blocks.now, c.requires.room, c.loop-block.invariant.first)

pub loop-block-preserved : goal.loop-block-preserved
loop-block-preserved g c =
    let s = scene_at 1 c.args.world.now c.args.tally.now in
    let u = scene_at c.loop-block.first c.loop-block.world c.loop-block.tally in
    let bs = c.args.blocks.now in
    let i = c.loop-block.block-index in
    let b = get_or bs i (block 0 0) in
    let more = steps-more bs i (block 0 0) c.loop-block-test.true in
    let many = ap length more ∙ length-append (steps_of (take i bs)) _ in
    let led = scene-then s u _ (steps_of (take i bs)) (replicate b.count b.pid) _ more c.loop-block.invariant.scene c.in_ok-tell_block.ensures.scene in
    record {
      first = omega (arith, many, length-replicate b.count b.pid, c.loop-block.invariant.first);
      scene = led;
      told = told-then (g.T.Telling.tells c.args.telling.now) s u (steps_of (take i bs)) (replicate b.count b.pid) _ _ _ _ more c.loop-block.invariant.scene
          c.loop-block.invariant.told c.in_ok-tell_block.ensures.told;
      count = ap (λ (y : Scene). length y.world.processes) led ∙ length-scene s (steps_of (take (i + 1) bs));
    }

pub returns-in_err-tell_block-clause-fault : goal.returns-in_err-tell_block-clause-fault
returns-in_err-tell_block-clause-fault g c =
    let s = scene_at 1 c.args.world.now c.args.tally.now in
    let u = scene_at c.loop-block.first c.loop-block.world c.loop-block.tally in
    let bs = c.args.blocks.now in
    let i = c.loop-block.block-index in
    let b = get_or bs i (block 0 0) in
    let e = err_from_is_err_and c.from_residual.result c.from_residual.ensures.1 in
    rw (e.1, e.2) (breaks-then (g.T.Telling.tells c.args.telling.now) (g.T.Telling.fails c.args.telling.now) s u (steps_of (take i bs)) (replicate b.count b.pid)
    (steps_of (drop (suc i) bs)) (steps_of bs) _ _ _ _ (steps-split bs i (block 0 0) c.loop-block-test.true) c.loop-block.invariant.scene c.loop-block.invariant.told
    c.in_err-tell_block.ensures.fault)

pub returns-clause-scene : goal.returns-clause-scene
returns-clause-scene g c =
    let s = scene_at 1 c.args.world.now c.args.tally.now in
    let bs = c.args.blocks.now in
    let all = take_all c.loop-block.block-index bs c.loop-block-test.false in
    let first = c.loop-block.invariant.first ∙ ap (λ l. 1 + length (steps_of l)) all ∙ ap (λ n. 1 + n) (length-steps bs) in
    ap (λ n. scene_at n c.loop-block.world c.loop-block.tally) (sym first) ∙ c.loop-block.invariant.scene ∙ ap (λ l. scene_after s (steps_of l)) all
