-- What is told of worlds that are alike.
use Rattle.std.proofs.Common.{ℕ, ◌≡◌, Bool, true, false, List, ◌++◌, length, slice_get, ap, refl, sym, ◌∙◌}
use Rattle.ipc_kernel.specs.Alike.{IsAlike}
use Rattle.lab_sched.specs.Worlds.{Process, WorldState, machine_of}
use Rattle.lab_sched.specs.Verdicts.{verdict_of}
use Rattle.lab_sched.proofs.VerdictLemmas.{verdict_from, verdict_worked_out}
use Rattle.lab_texts.specs.Rows.{texts_below}
use Rattle.lab_texts.specs.Texts.{text_of, out_line}
use Rattle.lab_texts.specs.Verdicts.{verdict_line}
use Rattle.lab_worlds.specs.Alikes.{OneVerdict}
use Rattle.lab_questions.specs.declared.asked.Show.{Show}
use Rattle.lab_questions.specs.Shown.{outcome_text, head_text, with_left, shown_text}
use Rattle.lab_questions.specs.Laws.{OneText}
use Rattle.lab_questions.proofs.LeftLemmas.{left_alike}
use Rattle.lab_questions.proofs.Reports.{same_report}

-- what processes have written, without their world
abbrev outputs_of : List Process → List ℕ
outputs_of ps = texts_below (length ps) (λ pid. text_of (λ s. out_line pid (machine_of s).output) (slice_get ps pid))

same_outcome : (w v : WorldState) → v.processes ≡ w.processes → verdict_of v ≡ verdict_of w → outcome_text v ≡ outcome_text w
unfolding outcome_text
same_outcome w v processes verdict =
    ap (λ ps. outputs_of ps ++ verdict_line (verdict_of v)) processes ∙ ap (λ x. outputs_of w.processes ++ verdict_line x) verdict

same_head : (out : Bool) (w v : WorldState) → v.processes ≡ w.processes → verdict_of v ≡ verdict_of w → head_text out v ≡ head_text out w
same_head false w v processes verdict = same_report w v processes verdict
same_head true w v processes verdict = same_outcome w v processes verdict

same_rest : (left : Bool) (w v : WorldState) (text : List ℕ) → IsAlike w.kernel v.kernel → with_left left v.kernel text ≡ with_left left w.kernel text
same_rest false w v text kernel = refl
same_rest true w v text kernel = ap (λ l. text ++ l) (left_alike w.kernel v.kernel kernel)

-- of worlds with the same processes and one verdict over kernels that are alike the same is told
pub same_text : (show : Show) (w v : WorldState) → v.processes ≡ w.processes → IsAlike w.kernel v.kernel → verdict_of v ≡ verdict_of w → shown_text show v ≡ shown_text show w
same_text show w v processes kernel verdict =
    ap (with_left show.left v.kernel) (same_head show.out w v processes verdict) ∙ same_rest show.left w v (head_text show.out w) kernel

pub one_text : OneVerdict → OneText
one_text one_verdict show w v consistent alike =
    let here = verdict_worked_out w in
    let there = one_verdict w v (verdict_of w) consistent alike here in
    same_text show w v alike.processes alike.kernel (sym (verdict_from v (verdict_of w) there))
