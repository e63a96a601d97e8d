-- The line of a step.
use Rattle.std.specs.Prelude.{ℕ, Bool, false, ◌||◌, Option, Some, None, is_some, List, [], ◌++◌, codes, ◌∷◌}
use Rattle.std.specs.Fmt.{decimal}
use Rattle.lc3_table.specs.Text.{word_text}
use Rattle.lc3_machine.specs.declared.want.How.{How}
use Rattle.lab_texts.specs.Texts.{how_text}
use Rattle.lab_trace.specs.Bytes.{bytes_text}
use Rattle.lab_trace.specs.Outcomes.{outcome_text, call_text, level_text}
use Rattle.lab_told.specs.declared.origins.Origin.{Origin}
use Rattle.lab_trace.specs.Forms.{Form, separator, head, line_end}
use Rattle.lab_told.specs.declared.handles.Level.{Level}
use Rattle.lab_told.specs.declared.told.Called.{Called}
use Rattle.lab_told.specs.declared.told.Act.{Act}
use Rattle.lab_told.specs.declared.told.Act.TheVariants.{Calls, Writes, Ends}
use Rattle.lab_told.specs.declared.told.Event.{Event}
use Rattle.lab_told.specs.declared.told.Told.{Told}
use Rattle.lab_told.specs.declared.told.Told.TheVariants.{Nothing, Counted, Shown}
use Rattle.lab_told.specs.Scenes.{Scene, told, next}

-- the level after the step
abbrev pub level_note : Option Level → List ℕ
level_note None = []
level_note (Some level) = separator false ++ level_text level

-- since when the process waited; `begun` says whether another note stands before it
abbrev pub wait_note : Bool → Option ℕ → List ℕ
wait_note begun None = []
wait_note begun (Some n) = separator begun ++ codes "waited since " ++ decimal n

-- where a message comes from; `begun` says whether another note stands before it
abbrev pub origin_note : Bool → Option Origin → List ℕ
origin_note begun None = []
origin_note begun (Some o) = separator begun ++ codes "from P" ++ decimal o.pid ++ codes " at " ++ decimal o.step

-- the notes of a call
abbrev pub notes : Called → List ℕ
notes c = level_note c.level ++ origin_note (is_some c.level) c.origin ++ wait_note (is_some c.level) c.since

-- whether a call has notes
abbrev pub has_notes : Called → Bool
has_notes c = is_some c.level || is_some c.origin || is_some c.since

-- a call and what became of it
unfoldable pub called_text : Called → List ℕ
called_text c = call_text c.service c.arguments ++ codes " " ++ outcome_text c.outcome ++ notes c

-- bytes of output behind the text of the instruction that wrote them
unfoldable pub output_text : ℕ → List ℕ → List ℕ
output_text word bytes = word_text word ++ codes " " ++ bytes_text bytes

-- how a process ended
abbrev pub end_text : How → List ℕ
end_text how = codes "ends " ++ how_text how

-- what a step did by the instruction with this word
abbrev pub act_text : ℕ → Act → List ℕ
act_text word (Calls c) = called_text c
act_text word (Writes bytes) = output_text word bytes
act_text word (Ends how) = end_text how

-- whether notes stand behind what a step did
abbrev pub is_noted : Act → Bool
is_noted (Calls c) = has_notes c
is_noted other = false

-- the columns of an event in step n, of process p
abbrev pub columns : Form → ℕ → ℕ → Event → List ℕ
columns v n p e = head v (decimal n) p e.pc e.local

-- the line of step n, of process p, by what is told of it; nothing where that is no event
abbrev pub step_line : Form → ℕ → ℕ → Told → List ℕ
step_line v n p Nothing = []
step_line v n p Counted = []
step_line v n p (Shown e) = columns v n p e ++ act_text e.word e.act ++ line_end v (is_noted e.act) p e.pc e.word

-- the line of the next step, of process p, or nothing
abbrev pub line : Form → Scene → ℕ → List ℕ
line v s p = step_line v s.number p (told s p)

-- the lines of steps
unfoldable pub events : Form → Scene → List ℕ → List ℕ
events v s [] = []
events v s (p ∷ ps) = line v s p ++ events v (next s p) ps
