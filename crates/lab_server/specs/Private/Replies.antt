-- What a frame leads to, as the code has it.
use Rattle.std.specs.Prelude.{◌≡◌, ℕ, Bool, true, false, Option, Some, None, List}
use Rattle.serde_json.specs.Data.{Data}
use Rattle.serde_json.specs.View.{view}
use Rattle.lab_frames.specs.Frames.{Begun}
use Rattle.lab_frames.specs.declared.reading.FrameFault.{FrameFault}
use Rattle.lab_frames.specs.declared.reading.FrameFault.TheVariants as frame
use Rattle.lab_server.specs.Messages.{message_of}
use Rattle.lab_server.specs.Sessions.{Session, ends}
use Rattle.lab_server.specs.Turns.{Takes, TakesValue, EndsWith}
use Rattle.lab_server.specs.declared.serving.Reply.{Reply}
use Rattle.lab_server.specs.declared.serving.Reply.TheVariants.{Nothing, Message, End}
use Rattle.lab_server.specs.declared.serving.ServerFault.{ServerFault}
use Rattle.lab_server.specs.declared.serving.ServerFault.TheVariants as fault

-- what a reply sends
abbrev pub sent_of : Reply → Option Data
sent_of Nothing = None
sent_of (Message v) = Some (view v)
sent_of End = None

-- whether the session goes on after a reply
abbrev pub goes_on : Reply → Bool
goes_on Nothing = true
goes_on (Message v) = true
goes_on End = false

-- a value that was read leads to this reply
abbrev pub RepliesToValue : Reply → Data → Session → Session → Type 0
RepliesToValue End d s after = (ends (message_of d) ≡ true) × (after ≡ s)
RepliesToValue Nothing d s after = TakesValue d s (record { sent = None; after = after })
RepliesToValue (Message v) d s after = TakesValue d s (record { sent = Some (view v); after = after })

-- what bytes begin with leads to this reply, and these bytes come after it
abbrev pub RepliesTo : Reply → Begun → List ℕ → Session → Session → Type 0
RepliesTo End begun rest s after = EndsWith begun × (after ≡ s)
RepliesTo Nothing begun rest s after = Takes begun s (record { sent = None; after = after }) rest
RepliesTo (Message v) begun rest s after = Takes begun s (record { sent = Some (view v); after = after }) rest

-- a fault of a frame as one of the message of this number
abbrev pub fault_at : ℕ → FrameFault → ServerFault
fault_at n frame.Read = fault.Read
fault_at n frame.BadHeader = fault.BadHeader n
fault_at n frame.CutShort = fault.CutShort n
fault_at n frame.NoMemory = fault.NoMemory
