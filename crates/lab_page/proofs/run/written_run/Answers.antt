use Rattle.std.proofs.Common.{◌≡◌, ℕ, List, ap, subst, ◌∙◌}
use Rattle.std.specs.Prelude.{IfOk, IfErr}
use Rattle.std.proofs.lemmas.Result.{IfErr-weaker}
use Rattle.serde_json.specs.Data.{Data}
use Rattle.serde_json.specs.Written.{compact_text}
use Rattle.lab_sched.specs.Schedules.{steps_of}
use Rattle.lab_told.specs.Scenes.{scene_at}
use Rattle.lab_told.specs.Tallies.{new_tally}
use Rattle.lab_page.specs.Faults.{IsFault}
use Rattle.lab_page.specs.Stores.{stores_from}
use Rattle.lab_page.specs.declared.run.Stored.{Stored}
use Rattle.lab_page.proofs.StoreLemmas.{stores-shown}
use Rattle.lab_page.proofs.RunLemmas.{run-first, trace-first}
use Rattle.lab_page.proofs.FaultLemmas.{fault_explains}
use Rattle.lab_page.proofs.run.written_run.Goals as goal

pub returns-clause-json : goal.returns-clause-json
returns-clause-json c =
    let made = run-first c.in_ok-look.look.page c.in_ok-look.look.whole c.args.world.now c.args.schedule.now _ c.in_ok-look.ensures.page c.in_ok-look.ensures.whole
    (ap (scene_at 1 c.args.world.now) (c.in_ok-tally.ensures.empty ∙ ap new_tally c.count.ensures.count)) in
    subst (λ (d : Data). IfOk c.take_steps.result (λ t. t.json.items ≡ compact_text d)) made c.take_steps.ensures.json

pub returns-clause-trace : goal.returns-clause-trace
returns-clause-trace c =
    let made = trace-first c.in_ok-look.look.trace c.args.world.now c.args.schedule.now c.args.given.now _ c.in_ok-look.ensures.trace
    (ap (scene_at 1 c.args.world.now) (c.in_ok-tally.ensures.empty ∙ ap new_tally c.count.ensures.count)) in
    subst (λ (l : List ℕ). IfOk c.take_steps.result (λ t. t.trace.items ≡ l)) made c.take_steps.ensures.trace

pub returns-clause-stores : goal.returns-clause-stores
returns-clause-stores c =
    let made = ap (λ ss. stores_from ss 1 c.args.world.now (steps_of c.args.schedule.now)) c.in_ok-look.ensures.sources
    ∙ stores-shown c.args.world.now c.args.schedule.now c.args.sources.now in
    subst (λ (l : List Stored). IfOk c.take_steps.result (λ t. t.stores.items ≡ l)) made c.take_steps.ensures.stores

pub returns-clause-fault : goal.returns-clause-fault
returns-clause-fault c =
    let made = run-first c.in_ok-look.look.page c.in_ok-look.look.whole c.args.world.now c.args.schedule.now _ c.in_ok-look.ensures.page c.in_ok-look.ensures.whole
    (ap (scene_at 1 c.args.world.now) (c.in_ok-tally.ensures.empty ∙ ap new_tally c.count.ensures.count)) in
    IfErr-weaker c.take_steps.result _ _ (λ e. fault_explains e c.args.world.now c.args.schedule.now _)
    (subst (λ (d : Data). IfErr c.take_steps.result (λ e. IsFault e (compact_text d))) made c.take_steps.ensures.fault)
