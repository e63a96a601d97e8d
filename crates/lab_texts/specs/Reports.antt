-- The report on a world.
use Rattle.std.specs.Prelude.{ℕ, List, ◌++◌, length}
use Rattle.lab_sched.specs.Worlds.{WorldState}
use Rattle.lab_texts.specs.Rows.{texts_below}
use Rattle.lab_texts.specs.Texts.{status_text, out_text}
use Rattle.lab_texts.specs.Verdicts.{verdict_text}

-- the status line and the output line of process pid
abbrev pub process_report : ℕ → WorldState → List ℕ
process_report pid w = status_text pid w ++ out_text pid w

-- these of each process, in order
abbrev pub process_reports : WorldState → List ℕ
process_reports w = texts_below (length w.processes) (λ pid. process_report pid w)

-- the lines of all processes, and then the verdict
unfoldable pub report_text : WorldState → List ℕ
report_text w = process_reports w ++ verdict_text w
