-- What is noted of steps, one after another.
use Rattle.std.proofs.Common.{◌≡◌, ℕ, List, [], ◌∷◌, replicate, sym, ap, ◌∙◌}
use Rattle.lab_sched.specs.Worlds.{nothing, step, step_effect_in}
use Rattle.lab_told.specs.Scenes.{Scene, next}
use Rattle.lab_told.specs.Tellings.{IsNext, TellsAll}
use Rattle.lab_told.specs.declared.telling.Taken.{Taken}
use Rattle.lab_told.specs.declared.told.Told.{Told}
use Rattle.lab_told.proofs.SceneLemmas.{renumbered, told-still}
use Rattle.lab_told.proofs.TellingLemmas.{told-once}
use Rattle.lab_notes.specs.Notes.{NotesState, notes_by, notes_next, notes_after, registers_behind}

-- a step without an effect is not noted
none-noted : (s : Scene) (p : ℕ) (n : NotesState) → step_effect_in s.world p ≡ nothing → notes_next s p n ≡ n
none-noted s p n e = ap (λ (t : Told). notes_by (step s.world p).kernel p (registers_behind s p) t n) (told-still s p e)

-- the notes after the next step, of process p
abbrev pub NotesStep : Scene → ℕ → NotesState → NotesState → Type 0
NotesStep s p old new = new ≡ notes_next s p old

-- a step, and the others for which it stands
pub notes-told : (s : Scene) (x : Taken) (a b : NotesState) → IsNext s x → NotesStep s x.pid a b → TellsAll NotesStep s (replicate x.count x.pid) a b
notes-told s x a b taken first =
    told-once NotesStep s x a b taken first (λ e n. (
      first ∙ none-noted s x.pid a e ∙ sym (none-noted (renumbered s n) x.pid a e),
      sym (none-noted (renumbered s n) x.pid b e),
    ))

pub notes-all : (s : Scene) (ps : List ℕ) (a b : NotesState) → TellsAll NotesStep s ps a b → b ≡ notes_after s ps a
unfolding notes_after
notes-all s [] a b t = t
notes-all s (p ∷ ps) a c t = notes-all (next s p) ps t.0 c t.2 ∙ ap (notes_after (next s p) ps) t.1
