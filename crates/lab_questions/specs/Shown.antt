-- What is told of a world at rest.
use Rattle.std.specs.Prelude.{ℕ, Bool, true, false, List, ◌++◌, length}
use Rattle.ipc_kernel.specs.Kernel.{KernelState}
use Rattle.lab_sched.specs.Worlds.{WorldState}
use Rattle.lab_texts.specs.Rows.{texts_below}
use Rattle.lab_texts.specs.Texts.{out_text}
use Rattle.lab_texts.specs.Verdicts.{verdict_text}
use Rattle.lab_texts.specs.Reports.{report_text}
use Rattle.lab_questions.specs.declared.asked.Show.{Show}
use Rattle.lab_questions.specs.Left.{left_text}

-- what each process has written, in order
abbrev pub outputs_text : WorldState → List ℕ
outputs_text w = texts_below (length w.processes) (λ pid. out_text pid w)

-- the same, and then the verdict
unfoldable pub outcome_text : WorldState → List ℕ
outcome_text w = outputs_text w ++ verdict_text w

-- the report, or the outcome in its place
abbrev pub head_text : Bool → WorldState → List ℕ
head_text false w = report_text w
head_text true w = outcome_text w

-- the text, with the messages that are left behind it if these are told
abbrev pub with_left : Bool → KernelState → List ℕ → List ℕ
with_left false k text = text
with_left true k text = text ++ left_text k

-- what is told of a world
abbrev pub shown_text : Show → WorldState → List ℕ
shown_text show w = with_left show.left w.kernel (head_text show.out w)
