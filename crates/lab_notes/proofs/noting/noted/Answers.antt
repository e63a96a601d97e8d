use Rattle.std.proofs.Common.{ap, ◌∙◌}
use Rattle.lab_sched.specs.Schedules.{steps_of}
use Rattle.lab_told.specs.Scenes.{Scene, scene_at, scene_after, first_scene}
use Rattle.lab_told.specs.Tallies.{new_tally}
use Rattle.lab_notes.specs.Notes.{new_notes, notes_after}
use Rattle.lab_notes.specs.Waiting.{waits_of}
use Rattle.lab_notes.proofs.NoteLemmas.{notes-all}
use Rattle.lab_notes.proofs.noting.noted.Goals as goal

pub returns : goal.returns
returns c =
    let ps = steps_of c.args.schedule.now in
    let w = c.args.world.now in
    let first = c.in_ok-tally.ensures.empty ∙ ap new_tally c.count.ensures.count in
    let told = rw c.blocks-2.ensures.value at c.in_ok-tell_run.ensures.told in
    let scene = rw c.blocks-2.ensures.value at c.in_ok-tell_run.ensures.scene in
    record {
      noted = notes-all (scene_at 1 w c.in_ok-tally.tally) ps c.in_ok-notes.notes _ told
          ∙ ap (λ t. notes_after (scene_at 1 w t) ps c.in_ok-notes.notes) first
          ∙ ap (notes_after (first_scene w) ps) (c.in_ok-notes.ensures.empty ∙ ap new_notes c.count-2.ensures.count);
      waits = c.in_ok-waits.ensures.waits ∙ ap (λ (s : Scene). waits_of s.world s.tally) scene
          ∙ ap (λ t. waits_of (scene_after (scene_at 1 w t) ps).world (scene_after (scene_at 1 w t) ps).tally) first;
    }
