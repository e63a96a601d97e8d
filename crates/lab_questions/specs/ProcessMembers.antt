-- The members for the processes of an end, and for the messages that are left.
use Rattle.std.specs.Prelude.{ℕ, Bool, true, false, Option, Some, None, List, [], ◌∷◌, ◌++◌, codes, map}
use Rattle.std.specs.Fmt.{decimal}
use Rattle.lc3_word.specs.Words.{hexadecimal_text}
use Rattle.ipc_objects.specs.declared.queue.Message.{Message}
use Rattle.ipc_objects.specs.Queue.{QueueState}
use Rattle.lab_sched.specs.Worlds.{machine_of, Process, Running, Waiting, Ended, WorldState}
use Rattle.lab_texts.specs.Texts.{how_text, place_text}
use Rattle.lab_questions.specs.Values.{text_json, array_json, member, name_json, object_json}

-- the status of a process
abbrev pub status_word : Process → List ℕ
status_word (Running m) = codes "running"
status_word (Waiting m c) = codes "waiting"
status_word (Ended e) = codes "ended"

-- the member for how a process ended, or else for what stands at its program counter
abbrev pub stop_member : Process → List ℕ
stop_member (Running m) = member (codes "text") (name_json (place_text m))
stop_member (Waiting m c) = member (codes "text") (name_json (place_text m))
stop_member (Ended e) = member (codes "how") (name_json (how_text e.how))

-- the members for where a process stands, unless only what it has written is told
abbrev pub standing_members : Bool → Process → List (List ℕ)
standing_members true s = []
standing_members false s =
    member (codes "status") (name_json (status_word s))
    ∷ member (codes "pc") (name_json (hexadecimal_text (machine_of s).pc))
    ∷ stop_member s
    ∷ []

-- a process, or what it has written alone
unfoldable pub process_json : Bool → Process → List ℕ
process_json out s = object_json (standing_members out s ++ member (codes "out") (text_json (machine_of s).output) ∷ [])

-- the processes of a world
abbrev pub processes_json : Bool → WorldState → List ℕ
processes_json out w = array_json (map (process_json out) w.processes)

-- the name of a queue, or that it has none
abbrev pub name_or_null : Option (List ℕ) → List ℕ
name_or_null None = codes "null"
name_or_null (Some name) = text_json name

-- a word of a message
abbrev pub word_json : ℕ → List ℕ
word_json w = name_json (hexadecimal_text w)

-- a message in a queue of this name, or of none
unfoldable pub message_json : Option (List ℕ) → Message → List ℕ
message_json name m =
    object_json (
    member (codes "queue") (name_or_null name)
    ∷ member (codes "priority") (decimal m.priority)
    ∷ member (codes "words") (array_json (map word_json m.words))
    ∷ [])

-- the messages in a queue with its name or none, if there is one, in the order in which they would be received
abbrev pub messages_in : Option (Option (List ℕ) × QueueState) → List (List ℕ)
messages_in None = []
messages_in (Some held) = map (message_json held.0) held.1.messages
