use Rattle.std.proofs.Common.{◌≡◌, ◌+◌, length, replicate, refl, sym, ap, ◌∙◌, arith}
use Rattle.std.proofs.lemmas.List.{replicate-append-replicate}
use Rattle.std.proofs.lemmas.Result.{err_from_is_err_and}
use Rattle.lab_told.specs.Scenes.{Scene, scene_at}
use Rattle.lab_told.proofs.SceneLemmas.{scene-none, length-scene}
use Rattle.lab_told.proofs.TellingLemmas.{scene-then, told-then, breaks-block}
use Rattle.lab_told.proofs.telling.tell_block.Goals as goal

pub loop-done-init : goal.loop-done-init
loop-done-init g c =
    let s = scene_at c.args.steps.first c.args.world.now c.args.tally.now in
    let e : c.args.steps.first + 0 ≡ c.args.steps.first = omega arith in
    record {
      within = omega arith;
      scene = ap (λ n. scene_at n c.args.world.now c.args.tally.now) e ∙ sym (scene-none s);
      told = refl;
      there = c.requires.process;
    }

pub loop-done-preserved : goal.loop-done-preserved
loop-done-preserved g c =
    let s = scene_at c.args.steps.first c.args.world.now c.args.tally.now in
    let u = scene_at (c.args.steps.first + c.loop-done.done) c.loop-done.world c.loop-done.tally in
    let p = c.args.steps.pid in
    let done = c.loop-done.done in
    let k = c.in_ok-taken.taken in
    let e : c.args.steps.first + (done + k) ≡ (c.args.steps.first + done) + k = omega arith in
    let parts = sym (replicate-append-replicate done k p) in
    let led = scene-then s u _ (replicate done p) (replicate k p) (replicate (done + k) p) parts c.loop-done.invariant.scene
    (ap (λ n. scene_at n c.tell_first.new.world c.tell_first.new.tally) e ∙ c.in_ok-taken.ensures.scene) in
    record {
      within = omega (arith, c.in_ok-taken.ensures.within);
      scene = led;
      told = told-then (g.T.Telling.tells c.args.telling.now) s u (replicate done p) (replicate k p) (replicate (done + k) p) _ _ _ parts c.loop-done.invariant.scene
          c.loop-done.invariant.told c.in_ok-taken.ensures.told;
      there = omega (arith, ap (λ (x : Scene). length x.world.processes) led, length-scene s (replicate (done + k) p), c.requires.process);
    }

pub returns-in_err-taken-clause-fault : goal.returns-in_err-taken-clause-fault
returns-in_err-taken-clause-fault g c =
    let s = scene_at c.args.steps.first c.args.world.now c.args.tally.now in
    let u = scene_at (c.args.steps.first + c.loop-done.done) c.loop-done.world c.loop-done.tally in
    let e = err_from_is_err_and c.from_residual.result c.from_residual.ensures.1 in
    rw (e.1, e.2) (breaks-block (g.T.Telling.tells c.args.telling.now) (g.T.Telling.fails c.args.telling.now) s u c.args.steps.count c.loop-done.done c.args.steps.pid _ _ _ _
    (omega (arith, c.loop-done-test.true)) c.loop-done.invariant.scene c.loop-done.invariant.told c.in_err-taken.ensures.fault)
