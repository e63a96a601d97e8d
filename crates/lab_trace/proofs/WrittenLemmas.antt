-- What is written of a trace.
use Rattle.std.proofs.Common.{◌≡◌, ℕ, List, ◌++◌, Option, Result, Ok, Err, length, sym, ap, subst, ◌∙◌}
use Rattle.std.specs.Prelude.{OnErr, OnOk}
use Rattle.std.specs.Io.KnownBytes.{Appends}
use Rattle.lab_io.specs.Device.{AppendsPrefix}
use Rattle.lab_io.proofs.Prefixes.{AppendsPrefix-longer}
use Rattle.lab_sched.specs.Worlds.{WorldState}
use Rattle.lab_places.specs.Placed.{SourceSeen}
use Rattle.lab_told.specs.Scenes.{Scene, scene_at, first_scene, scene_after}
use Rattle.lab_told.specs.Tallies.{TallyState, new_tally}
use Rattle.lab_trace.specs.Forms.{Form, form_for}
use Rattle.lab_trace.specs.Lines.{events}
use Rattle.lab_trace.specs.Traces.{ending, trace_with, trace_text}

-- what holds, holds on an error
pub on_err : {T E : Type 0} (r : Result T E) (P : Type 0) → P → OnErr r P
on_err (Ok x) P p = tt
on_err (Err e) P p = p

-- what holds, holds on an Ok
pub on_ok : {T E : Type 0} (r : Result T E) (P : Type 0) → P → OnOk r P
on_ok (Ok x) P p = p
on_ok (Err e) P p = tt

-- a whole trace, by its parts
pub trace-parts : (w : WorldState) (ss : List (Option SourceSeen)) (ps : List ℕ) (v : Form) (t : TallyState) (total count many : ℕ) → v ≡ form_for total count ss → total ≡ length ps
    → count ≡ length w.processes → t ≡ new_tally many → many ≡ length w.processes → trace_text w ss ps ≡ trace_with v (scene_at 1 w t) ps
unfolding trace_text
trace-parts w ss ps v t total count many v-is steps processes t-is each =
    let form = v-is ∙ ap (λ n. form_for n count ss) steps ∙ ap (λ n. form_for (length ps) n ss) processes in
    let tally = t-is ∙ ap new_tally each in
    ap (λ x. trace_with x (first_scene w) ps) (sym form) ∙ ap (λ x. trace_with v (scene_at 1 w x) ps) (sym tally)

-- what stands behind the lines, by the world and the tally that the steps led to
pub trace-whole : (s : Scene) (ps : List ℕ) (v : Form) (u : WorldState) (r : TallyState) (n : ℕ) (whole : List ℕ) → whole ≡ trace_with v s ps → scene_at n u r ≡ scene_after s ps
    → whole ≡ events v s ps ++ ending v u r
trace-whole s ps v u r n whole parts led = parts ∙ ap (λ (x : Scene). events v s ps ++ ending v x.world x.tally) (sym led)

-- all the lines are a beginning of the trace
pub lines-prefix : (s : Scene) (ps : List ℕ) (v : Form) (a b : Option (List ℕ)) (whole : List ℕ) → whole ≡ trace_with v s ps → Appends a b (events v s ps) → AppendsPrefix a b whole
lines-prefix s ps v a b whole parts sent =
    let last : Scene = scene_after s ps in record { sent = events v s ps; unsent = ending v last.world last.tally; whole = parts; appended = sent }

-- a beginning of the lines is one of the trace
pub prefix-lines : (s : Scene) (ps : List ℕ) (v : Form) (a b : Option (List ℕ)) (whole : List ℕ) → whole ≡ trace_with v s ps → AppendsPrefix a b (events v s ps) → AppendsPrefix a b whole
prefix-lines s ps v a b whole parts part = subst (λ (l : List ℕ). AppendsPrefix a b l) (sym parts) (AppendsPrefix-longer a b (events v s ps) _ part)
