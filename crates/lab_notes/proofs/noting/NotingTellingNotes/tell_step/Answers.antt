use Rattle.std.proofs.Common.{ap, ◌∙◌}
use Rattle.std.specs.Prelude.{slice_get}
use Rattle.lab_sched.specs.Worlds.{WorldState, step}
use Rattle.lab_told.specs.declared.told.Told.{Told}
use Rattle.lab_notes.specs.Notes.{notes_by, registers_of}
use Rattle.lab_notes.proofs.NoteLemmas.{notes-told}
use Rattle.lab_notes.proofs.noting.NotingTellingNotes.tell_step.Goals as goal

pub returns-clause-told : goal.returns-clause-told
returns-clause-told c = λ s next.
    let taken = c.args.taken.now in
    let p = taken.pid in
    notes-told s taken _ _ next
    (c.in_ok-keep_step.ensures.kept
    ∙ ap (λ (w : WorldState). notes_by w.kernel p (registers_of (slice_get w.processes p)) taken.told.now c.args.notes.now) next.world
    ∙ ap (λ (t : Told). notes_by (step s.world p).kernel p (registers_of (slice_get (step s.world p).processes p)) t c.args.notes.now) next.told)
