use Rattle.std.proofs.Common.{refl, ap, ◌∙◌}
use Rattle.std.proofs.lemmas.Result.{err_from_is_err_and}
use Rattle.lab_sched.specs.Schedules.{steps_of}
use Rattle.lab_told.specs.Scenes.{Scene, scene_at}
use Rattle.lab_told.proofs.SceneLemmas.{scene-world}
use Rattle.lab_page.proofs.RunLemmas.{run-made, run-fault, trace-made}
use Rattle.lab_page.proofs.WrittenLemmas.{all-told, broken-off}
use Rattle.lab_page.specs.Private.Stores.{AddsStores}
use Rattle.lab_page.specs.Private.Written.{AddsStep}
use Rattle.lab_page.proofs.PairLemmas.{first-told, second-told}
use Rattle.lab_page.proofs.StoreLemmas.{stores-all}
use Rattle.lab_page.proofs.run.take_steps.Goals as goal

pub returns-clause-world : goal.returns-clause-world
returns-clause-world c =
    let led = rw c.blocks-2.ensures.value at c.in_ok-tell_run.ensures.scene in
    ap (λ (x : Scene). x.world) led ∙ scene-world (scene_at 1 c.args.world.now c.args.tally.now) (steps_of c.args.schedule.now)

pub returns-clause-json : goal.returns-clause-json
returns-clause-json c =
    let x = scene_at 1 c.args.world.now c.args.tally.now in
    let led = rw c.blocks-2.ensures.value at c.in_ok-tell_run.ensures.scene in
    let told = rw (c.blocks-2.ensures.value, c.in_ok-moments.ensures.first) at c.in_ok-tell_run.ensures.told in
    let all = all-told c.args.look.now x (steps_of c.args.schedule.now) _ _ (first-told (AddsStep c.args.look.now) AddsStores x _ _ _ told) in
    run-made c.args.look.now.page c.args.look.now.whole x (scene_at _ c.tell_run.new.world c.tell_run.new.tally) _
    c.args.schedule.now _ _ _ refl (ap (λ m. m.json) all) led (ap (λ m. m.past) all)
    (c.into_parts-json.ensures.json ∙ c.in_ok-finish.ensures.json _)

pub returns-clause-trace : goal.returns-clause-trace
returns-clause-trace c =
    let x = scene_at 1 c.args.world.now c.args.tally.now in
    let led = rw c.blocks-2.ensures.value at c.in_ok-tell_run.ensures.scene in
    let told = rw (c.blocks-2.ensures.value, c.in_ok-moments.ensures.first) at c.in_ok-tell_run.ensures.told in
    let all = all-told c.args.look.now x (steps_of c.args.schedule.now) _ _ (first-told (AddsStep c.args.look.now) AddsStores x _ _ _ told) in
    trace-made c.args.look.now.trace x (scene_at _ c.tell_run.new.world c.tell_run.new.tally) (steps_of c.args.schedule.now) _ _ _ refl
    (ap (λ m. m.lines) all) led (c.into_parts-json.ensures.lines ∙ c.in_ok-finish.ensures.lines)

pub returns-clause-stores : goal.returns-clause-stores
returns-clause-stores c =
    let x = scene_at 1 c.args.world.now c.args.tally.now in
    let told = rw (c.blocks-2.ensures.value, c.in_ok-stores.ensures.none) at c.in_ok-tell_run.ensures.told in
    c.into_stored.ensures.stored
    ∙ stores-all x (steps_of c.args.schedule.now) _ _ (second-told (AddsStep c.args.look.now) AddsStores x _ _ _ told) refl

pub returns-in_err-tell_run-clause-fault : goal.returns-in_err-tell_run-clause-fault
returns-in_err-tell_run-clause-fault c =
    let x = scene_at 1 c.args.world.now c.args.tally.now in
    let broke = rw (c.blocks-2.ensures.value, c.in_ok-moments.ensures.first) at c.in_err-tell_run.ensures.fault in
    let fault = broken-off c.args.look.now x (steps_of c.args.schedule.now) _ _ c.in_err-tell_run.field-0.0 broke in
    let p = err_from_is_err_and c.from_residual-in_err-tell_run.result c.from_residual-in_err-tell_run.ensures.1 in
    rw (p.1, p.2) (run-fault c.in_err-tell_run.field-0.0 c.args.look.now.page c.args.look.now.whole x c.args.schedule.now fault)
