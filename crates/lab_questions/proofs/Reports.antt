-- Reports of worlds with the same processes.
use Rattle.std.proofs.Common.{ℕ, ◌≡◌, List, ◌++◌, Option, Some, None, length, slice_get, ap, sym, ◌∙◌, codes, decimal, refl}
use Rattle.lab_sched.specs.Worlds.{Process, Running, Waiting, Ended, WorldState, machine_of}
use Rattle.lab_sched.specs.Verdicts.{IsVerdict, verdict_of, IsWaiting, HasEnded, HaveEnded, AreStuck}
use Rattle.lab_sched.specs.declared.verdict.Verdict.{Verdict}
use Rattle.lab_sched.specs.declared.verdict.Verdict.TheVariants as verdict
use Rattle.lab_texts.specs.Rows.{texts_below}
use Rattle.lab_texts.specs.Texts.{text_of, state_text, status_line, status_text, out_text, output_part, out_line}
use Rattle.lab_texts.specs.Verdicts.{verdict_line}
use Rattle.lab_texts.specs.Reports.{report_text, process_report, process_reports}
use Rattle.lab_questions.specs.Lines.{AreLines}
use Rattle.lab_questions.specs.Shown.{outputs_text}
use Rattle.lab_questions.proofs.LineLemmas.{lines-append, lines-feed, lines-below}

-- the lines of processes, without their world
abbrev reports_of : List Process → List ℕ
reports_of ps = texts_below (length ps)
    (λ pid. text_of (status_line pid) (slice_get ps pid) ++ text_of (λ s. out_line pid (machine_of s).output) (slice_get ps pid))

-- a report shows the processes and the verdict
pub same_report : (w v : WorldState) → v.processes ≡ w.processes → verdict_of v ≡ verdict_of w → report_text v ≡ report_text w
unfolding report_text
same_report w v processes verdict =
    ap (λ ps. reports_of ps ++ verdict_line (verdict_of v)) processes ∙ ap (λ x. reports_of w.processes ++ verdict_line x) verdict

lines_of : (text : Process → List ℕ) → ((s : Process) → AreLines (text s)) → (o : Option Process) → AreLines (text_of text o)
lines_of text each None = tt
lines_of text each (Some s) = each s

status_lines : (pid : ℕ) (s : Process) → AreLines (status_line pid s)
unfolding status_line
status_lines pid s = lines-feed (decimal pid ++ codes " " ++ state_text s)

out_lines : (pid : ℕ) (bytes : List ℕ) → AreLines (out_line pid bytes)
unfolding out_line
out_lines pid bytes = lines-feed (codes "out " ++ decimal pid ++ output_part bytes)

written_lines : (w : WorldState) (pid : ℕ) → AreLines (out_text pid w)
written_lines w pid = lines_of (λ s. out_line pid (machine_of s).output) (λ s. out_lines pid (machine_of s).output) (slice_get w.processes pid)

-- what all processes have written
pub output_lines : (w : WorldState) → AreLines (outputs_text w)
output_lines w = lines-below (length w.processes) (λ pid. out_text pid w) (written_lines w)

-- the lines of all processes
pub report_lines : (w : WorldState) → AreLines (process_reports w)
report_lines w =
    lines-below (length w.processes) (λ pid. process_report pid w)
    (λ pid. lines-append (status_text pid w) (out_text pid w)
    (lines_of (status_line pid) (status_lines pid) (slice_get w.processes pid)) (written_lines w pid))

waits_on : (s : Process) → IsWaiting s → HasEnded s → ⊥
waits_on (Running m) waits ended = waits
waits_on (Waiting m c) waits ended = ended
waits_on (Ended e) waits ended = waits

not_both : (w v : WorldState) → v.processes ≡ w.processes → HaveEnded w → AreStuck v → ⊥
not_both w v same ended stuck =
    waits_on stuck.waits.1 stuck.waits.3 (ended stuck.waits.0 stuck.waits.1 (ap (λ ps. slice_get ps stuck.waits.0) (sym same) ∙ stuck.waits.2))

-- worlds of the same processes have one verdict, if none is open
pub same_verdict : (w v : WorldState) (x y : Verdict) → v.processes ≡ w.processes → IsVerdict w x → (x ≡ verdict.Open → ⊥) → IsVerdict v y → (y ≡ verdict.Open → ⊥) → x ≡ y
same_verdict w v verdict.Open y same h n k m = absurd (n refl)
same_verdict w v verdict.Ended verdict.Ended same h n k m = refl
same_verdict w v verdict.Ended verdict.Stuck same h n k m = absurd (not_both w v same h k)
same_verdict w v verdict.Ended verdict.Open same h n k m = absurd (m refl)
same_verdict w v verdict.Stuck verdict.Ended same h n k m = absurd (not_both v w (sym same) k h)
same_verdict w v verdict.Stuck verdict.Stuck same h n k m = refl
same_verdict w v verdict.Stuck verdict.Open same h n k m = absurd (m refl)
