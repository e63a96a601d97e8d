-- The trace of a schedule: the lines of its steps, where the processes stand at its end, and the report.
use Rattle.std.specs.Prelude.{◌≡◌, ℕ, nat_le, Bool, IsTrue, Option, Some, List, ◌++◌, length, position, ⊤}
use Rattle.lab_sched.specs.Worlds.{WorldState}
use Rattle.lab_places.specs.Placed.{SourceSeen, placed}
use Rattle.lab_texts.specs.Reports.{report_text}
use Rattle.lab_trace.specs.Forms.{Form, form_for}
use Rattle.lab_told.specs.Scenes.{Scene, first_scene, scene_after}
use Rattle.lab_trace.specs.Lines.{events}
use Rattle.lab_trace.specs.Ends.{end_lines}
use Rattle.lab_told.specs.Tallies.{TallyState}
use Rattle.lab_trace.specs.declared.tracing.TraceFault.{TraceFault}
use Rattle.lab_trace.specs.declared.tracing.TraceFault.TheVariants.{NoProcess, Write, NoMemory}

-- what follows the lines of the steps: where the processes stand, and the report, with where they stand in their sources
abbrev pub ending : Form → WorldState → TallyState → List ℕ
ending v w t = end_lines v w t ++ placed v.sources (report_text w)

-- the trace of steps from a scene on, in this form
abbrev pub trace_with : Form → Scene → List ℕ → List ℕ
trace_with v s ps = events v s ps ++ ending v (scene_after s ps).world (scene_after s ps).tally

-- the trace of a world by these steps; of each process its source stands in ss, where it was given as one
unfoldable pub trace_text : WorldState → List (Option SourceSeen) → List ℕ → List ℕ
trace_text w ss ps = trace_with (form_for (length ps) (length w.processes) ss) (first_scene w) ps

-- how many steps come before the first of a process that isn't there, if there is one
unfoldable pub missing_after : WorldState → List ℕ → Option ℕ
missing_after w ps = position (λ p. nat_le (length w.processes) p) ps

-- why a trace broke off: a process that isn't there, or a writer that failed
abbrev pub Explains : TraceFault → WorldState → List ℕ → Bool → Type 0
Explains (NoProcess done) w ps failed = missing_after w ps ≡ Some done
Explains Write w ps failed = IsTrue failed
Explains NoMemory w ps failed = ⊤
