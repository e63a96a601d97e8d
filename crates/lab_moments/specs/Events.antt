-- What a step did that has a line in the trace.
use Rattle.std.specs.Prelude.{ℕ, Bool, true, false, if◌then◌else◌, Option, Some, List, [], ◌∷◌, codes}
use Rattle.std.specs.Option.{option_map}
use Rattle.serde_json.specs.Data.{Data, null, string}
use Rattle.ipc_errors.specs.Names.{error_name}
use Rattle.ipc_kernel.specs.declared.call.Reply.TheVariants.{Message}
use Rattle.lab_sched.specs.Worlds.{WorldState}
use Rattle.lab_texts.specs.Texts.{how_text}
use Rattle.lab_trace.specs.Outcomes.{outcome_text}
use Rattle.lab_told.specs.Answers.{result_in}
use Rattle.lab_trace.specs.Forms.{Form}
use Rattle.lab_trace.specs.Lines.{columns, act_text}
use Rattle.ipc_traps.specs.Services.{service_name, is_on_level}
use Rattle.lab_told.specs.Tallies.{TallyState}
use Rattle.lab_told.specs.declared.answers.Outcome.{Outcome}
use Rattle.lab_told.specs.declared.answers.Outcome.TheVariants.{Waits, Refused, Replied}
use Rattle.ipc_traps.specs.declared.service.Service.{Service}
use Rattle.ipc_traps.specs.declared.service.Service.TheVariants.{MqGetattr, SemGetvalue}
use Rattle.lab_told.specs.declared.told.Act.{Act}
use Rattle.lab_told.specs.declared.told.Act.TheVariants.{Calls, Writes, Ends}
use Rattle.lab_told.specs.declared.told.Called.{Called}
use Rattle.lab_told.specs.declared.told.Event.{Event}
use Rattle.lab_moments.specs.Values.{list, natural, naturals, or_null}
use Rattle.lab_moments.specs.Changes.{objects_told}
use Rattle.lab_moments.specs.Holds.{holds_over, holds_data}
use Rattle.lab_moments.specs.Objects.{open_data}
use Rattle.lab_moments.specs.Pasts.{Past}

-- what became of a call: it waits, or this error or this result was answered
abbrev pub outcome_data : Outcome → Data
outcome_data Waits = null
outcome_data (Refused e) = string (error_name e)
outcome_data (Replied reply) = natural (result_in reply)

-- the words of a message that a call received, else those that it sends
abbrev pub words_of : Outcome → Option (List ℕ) → Option (List ℕ)
words_of (Replied (Message words priority)) sent = Some words
words_of other sent = sent

-- a call: its name, its object by place and by name, its answer as the trace has it and as a value, the words of its message, the
-- step that sent the message that it received, and the step that last gave to its object where it had waited
unfoldable pub called_data : Called → Data
called_data c =
    list (string (codes "call") ∷ string (service_name c.service) ∷ or_null (option_map natural c.place) ∷ string c.object
    ∷ string (outcome_text c.outcome) ∷ outcome_data c.outcome ∷ or_null (option_map naturals (words_of c.outcome c.sent))
    ∷ or_null (option_map natural (option_map (λ o. o.step) c.origin)) ∷ or_null (option_map natural c.giver) ∷ [])

-- what a process did
abbrev pub act_data : Act → Data
act_data (Calls c) = called_data c
act_data (Writes bytes) = list (string (codes "output") ∷ naturals bytes ∷ [])
act_data (Ends how) = list (string (codes "ends") ∷ string (how_text how) ∷ [])

-- whether a call only tells of its object
abbrev pub is_asking : Service → Bool
is_asking MqGetattr = true
is_asking SemGetvalue = true
is_asking other = false

-- whether a call can change what the process has open
abbrev pub is_arranging : Service → Bool
is_arranging s = if is_on_level s then false else if is_asking s then false else true

-- whether it is told what the process has open behind what it did
abbrev pub tells_open : Act → Bool
tells_open (Calls c) = is_arranging c.service
tells_open (Writes bytes) = false
tells_open (Ends how) = true

-- what the process has open, where it is told
unfoldable pub open_told : WorldState → ℕ → Act → Data
open_told w p act = if tells_open act then open_data w p else null

-- an event of process p in step n, by the world and the tally after it, and by what was kept of the steps before it: the program
-- counter before it, its line in two parts, what the process did, the objects that it changed or is about, what the process has
-- open, and the units that were taken until then
unfoldable pub event_data : Form → ℕ → ℕ → Event → WorldState → TallyState → Past → Data
event_data v n p e w t h =
    list (natural e.pc ∷ string (columns v n p e) ∷ string (act_text e.word e.act) ∷ act_data e.act
    ∷ list (objects_told w t p e.act h.objects) ∷ open_told w p e.act ∷ holds_data (holds_over w.kernel p e.act h.holds) ∷ [])
