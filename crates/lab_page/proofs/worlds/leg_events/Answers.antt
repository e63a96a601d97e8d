use Rattle.std.proofs.Common.{[], ◌∷◌, ◌++◌, map, ap, ◌∙◌}
use Rattle.serde_json.specs.View.{view}
use Rattle.lab_sched.specs.Schedules.{block, steps_of}
use Rattle.lab_sched.proofs.ScheduleJoins.{steps-one}
use Rattle.lab_told.specs.Scenes.{scene_at, first_scene}
use Rattle.lab_told.specs.Tallies.{new_tally}
use Rattle.lab_page.specs.Legs.{leg_events}
use Rattle.lab_page.proofs.LegLemmas.{there-one, leg-all}
use Rattle.lab_page.proofs.worlds.leg_events.Goals as goal

pub tell_run-requires-clause-there : goal.tell_run-requires-clause-there
tell_run-requires-clause-there c = there-one c.args.world.now (block c.args.pid c.args.steps) c.requires.process

pub returns : goal.returns
returns c =
    let w = c.args.world.now in
    let x = scene_at 1 w c.in_ok-tally.tally in
    let b = block c.args.pid c.args.steps in
    let first = c.in_ok-tally.ensures.empty ∙ ap new_tally c.count.ensures.count in
    record {
      events = leg-all (λ v. map view v.items) x (steps_of (b ∷ [])) _ _ c.in_ok-tell_run.ensures.told
          ∙ ap (λ vs. map view vs ++ leg_events x (steps_of (b ∷ []))) c.new-events.ensures.items
          ∙ ap (λ t. leg_events (scene_at 1 w t) (steps_of (b ∷ []))) first ∙ ap (leg_events (first_scene w)) (steps-one b);
    }
