use Rattle.std.proofs.Common.{◌+◌, rules, sym, ap, ◌∙◌}
use Rattle.std.proofs.lemmas.Result.{err_from_is_err_and}
use Rattle.lab_sched.specs.Worlds.{step}
use Rattle.lab_told.specs.Scenes.{scene_at}
use Rattle.lab_told.proofs.TellingLemmas.{scene-stands}
use Rattle.lab_told.proofs.telling.tell_first.Goals as goal

pub returns-clause-scene : goal.returns-clause-scene
returns-clause-scene g c =
    let s = scene_at c.args.steps.first c.args.world.now c.args.tally.now in
    let p = c.args.steps.pid in
    let k = c.steps_told-count.result in
    let n = c.args.steps.first + k in
    ap (λ w. scene_at n w c.trace_step.new.tally) c.in_ok-told.ensures.world ∙ ap (λ t. scene_at n (step c.args.world.now p) t) c.in_ok-told.ensures.tally
    ∙ scene-stands s p k (λ other. c.steps_told-count.ensures.other (λ e. other (sym c.in_ok-told.ensures.told ∙ e)))

pub returns-clause-told : goal.returns-clause-told
returns-clause-told g c =
    c.in_ok-tell_step.ensures.told (scene_at c.args.steps.first c.args.world.now c.args.tally.now) (search rules)

pub returns-in_err-told-clause-fault : goal.returns-in_err-told-clause-fault
returns-in_err-told-clause-fault g c =
    let s = scene_at c.args.steps.first c.args.world.now c.args.tally.now in
    let p = err_from_is_err_and c.from_residual.result c.from_residual.ensures.1 in
    rw p.1 (g.met.T.Telling.refused c.args.telling.now s c.args.steps.pid c.args.output.now p.0 p.2)

pub returns-in_err-tell_step-clause-fault : goal.returns-in_err-tell_step-clause-fault
returns-in_err-tell_step-clause-fault g c =
    let p = err_from_is_err_and c.from_residual-in_err-tell_step.result c.from_residual-in_err-tell_step.ensures.1 in
    rw (p.1, p.2) (c.in_err-tell_step.ensures.fault (scene_at c.args.steps.first c.args.world.now c.args.tally.now) (search rules))
