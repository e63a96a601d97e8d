-- The lines of steps, one after another.
use Rattle.std.proofs.Common.{◌≡◌, ℕ, List, [], ◌∷◌, ◌++◌, Option, replicate, refl, sym, ap, subst, ◌∙◌, append_assoc}
use Rattle.std.specs.Io.KnownBytes.{Appends}
use Rattle.std.proofs.KnownBytes.{Appends-nil, Appends-trans}
use Rattle.lab_io.specs.Device.{Device, AppendsPrefix}
use Rattle.lab_io.proofs.Prefixes.{AppendsPrefix-after}
use Rattle.lab_sched.specs.Worlds.{nothing, step_effect_in}
use Rattle.lab_told.specs.Scenes.{Scene, told, next, scene_after}
use Rattle.lab_told.specs.Tellings.{IsNext, TellsAll, BreaksOff}
use Rattle.lab_told.specs.declared.telling.Taken.{Taken}
use Rattle.lab_told.specs.declared.told.Told.{Told}
use Rattle.lab_told.proofs.SceneLemmas.{renumbered, told-still}
use Rattle.lab_told.proofs.TellingLemmas.{told-once}
use Rattle.lab_trace.specs.Forms.{Form}
use Rattle.lab_trace.specs.Lines.{step_line, line, events}
use Rattle.lab_trace.specs.Private.Written.{WritesLine, BreaksLine}
use Rattle.lab_trace.specs.declared.tracing.TraceFault.{TraceFault}

pub events-append : (v : Form) (s : Scene) (xs ys : List ℕ) → events v s (xs ++ ys) ≡ events v s xs ++ events v (scene_after s xs) ys
unfolding events scene_after
events-append v s [] ys = refl
events-append v s (x ∷ xs) ys =
    ap (λ t. line v s x ++ t) (events-append v (next s x) xs ys) ∙ sym (append_assoc (line v s x) (events v (next s x) xs) (events v (scene_after (next s x) xs) ys))

pub line-still : (v : Form) (s : Scene) (p : ℕ) → step_effect_in s.world p ≡ nothing → line v s p ≡ []
line-still v s p e = ap (λ (t : Told). step_line v s.number p t) (told-still s p e)

module _ {D : Type 0} (contents : D → Option (List ℕ)) where
  -- a step, and the others for which it stands
  pub line-told : (v : Form) (s : Scene) (x : Taken) (a b : Device D) → IsNext s x → WritesLine contents v s x.pid a b
      → TellsAll (WritesLine contents v) s (replicate x.count x.pid) a b
  line-told v s x a b taken line =
      told-once (WritesLine contents v) s x a b taken line (λ e n. (
        subst (λ (l : List ℕ). Appends (contents a.device) (contents b.device) l) (line-still v s x.pid e ∙ sym (line-still v (renumbered s n) x.pid e)) line,
        subst (λ (l : List ℕ). Appends (contents b.device) (contents b.device) l) (sym (line-still v (renumbered s n) x.pid e)) (Appends-nil (contents b.device)),
      ))

  pub lines-told : (v : Form) (s : Scene) (ps : List ℕ) (a b : Device D) → TellsAll (WritesLine contents v) s ps a b
      → Appends (contents a.device) (contents b.device) (events v s ps)
  unfolding events
  lines-told v s [] a b t = subst (λ (x : Device D). Appends (contents a.device) (contents x.device) []) (sym t) (Appends-nil (contents a.device))
  lines-told v s (p ∷ ps) a c t =
      Appends-trans (contents a.device) (contents t.0.device) (contents c.device) (line v s p) (events v (next s p) ps) t.1 (lines-told v (next s p) ps t.0 c t.2)

  -- the lines before, and then a beginning of the next one
  pub lines-broke : (v : Form) (s : Scene) (ps : List ℕ) (a b : Device D) (e : TraceFault) → BreaksOff (WritesLine contents v) (BreaksLine contents v) s ps a b e
      → AppendsPrefix (contents a.device) (contents b.device) (events v s ps)
  unfolding events
  lines-broke v s ps a b e w =
      let u : Scene = scene_after s w.before in
      AppendsPrefix-after (contents a.device) (contents w.held.device) (contents b.device) (events v s w.before) (line v u w.pid) (events v (next u w.pid) w.behind) (events v s ps)
      (lines-told v s w.before a w.held w.told) w.fault.0 (ap (events v s) w.steps ∙ events-append v s w.before (w.pid ∷ w.behind))
