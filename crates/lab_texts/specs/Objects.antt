-- The texts that show the kernel of a world.
use Rattle.std.specs.Prelude.{ℕ, Bool, true, false, ◌==◌, nat_lt, if◌then◌else◌, Option, Some, None, List, [], ◌++◌, length, codes, flat_map}
use Rattle.std.specs.Fmt.{decimal}
use Rattle.lc3_word.specs.Words.{hexadecimal_text}
use Rattle.ipc_objects.specs.Queue.{QueueState}
use Rattle.ipc_objects.specs.declared.queue.Message.{Message}
use Rattle.ipc_kernel.specs.Limits.{object_places, open_max}
use Rattle.ipc_kernel.specs.Places.{place_at, queue_and_name, value_and_name}
use Rattle.ipc_kernel.specs.Processes.{descriptor_of, slot_of}
use Rattle.ipc_kernel.specs.declared.process.Descriptor.{Descriptor}
use Rattle.ipc_kernel.specs.declared.process.Slot.{Slot}
use Rattle.lab_sched.specs.Worlds.{WorldState}
use Rattle.lab_texts.specs.Rows.{texts_below}

-- the name of an object, or a dash once it is unlinked
abbrev pub name_text : Option (List ℕ) → List ℕ
name_text None = codes "-"
name_text (Some name) = name

-- place and name of an object, each with a blank
abbrev pub object_part : ℕ → Option (List ℕ) → List ℕ
object_part place name = decimal place ++ codes " " ++ name_text name ++ codes " "

-- place and name of a queue, its mq_maxmsg, mq_msgsize and mq_curmsgs
unfoldable pub queue_line : ℕ → Option (List ℕ) → QueueState → List ℕ
queue_line place name q =
    object_part place name ++ decimal q.max_messages ++ codes " " ++ decimal q.message_size ++ codes " "
    ++ decimal (length q.messages) ++ codes "\n"

-- a word of a message, after a blank
abbrev pub word_part : ℕ → List ℕ
word_part w = codes " " ++ hexadecimal_text w

-- priority and words of a message
unfoldable pub message_line : Message → List ℕ
message_line m = codes " " ++ decimal m.priority ++ flat_map word_part m.words ++ codes "\n"

-- a queue, and its messages in the order in which they would be received
abbrev pub queue_lines : ℕ → Option (Option (List ℕ) × QueueState) → List ℕ
queue_lines place None = []
queue_lines place (Some held) =
    queue_line place held.0 held.1 ++ flat_map message_line held.1.messages

-- the same of the queue in a place, where there is one
abbrev pub queue_text : ℕ → WorldState → List ℕ
queue_text place w = queue_lines place (queue_and_name (place_at w.kernel.places place))

-- the queues in order of place
abbrev pub mqs_text : WorldState → List ℕ
mqs_text w = texts_below object_places (λ place. queue_text place w)

-- place, name and value of a semaphore
abbrev pub semaphore_line : ℕ → Option (Option (List ℕ) × ℕ) → List ℕ
semaphore_line place None = []
semaphore_line place (Some held) = object_part place held.0 ++ (decimal held.1 ++ codes "\n")

-- the same of the semaphore in a place, where there is one
abbrev pub semaphore_text : ℕ → WorldState → List ℕ
semaphore_text place w =
    semaphore_line place (value_and_name (place_at w.kernel.places place))

-- the semaphores in order of place
abbrev pub sems_text : WorldState → List ℕ
sems_text w = texts_below object_places (λ place. semaphore_text place w)

-- to receive, to send, or both
abbrev pub access_text : ℕ → List ℕ
access_text access =
    if access == 0 then codes "r" else if access == 1 then codes "w" else codes "rw"

-- whether a call that would wait is refused
abbrev pub mode_text : Bool → List ℕ
mode_text true = codes "nonblock"
mode_text false = codes "block"

-- number, place, access and mode of an open descriptor
unfoldable pub descriptor_line : ℕ → Option Descriptor → List ℕ
descriptor_line d None = []
descriptor_line d (Some held) =
    codes "mq " ++ decimal d ++ codes " " ++ decimal held.place ++ codes " "
    ++ access_text held.access ++ codes " " ++ mode_text held.nonblock ++ codes "\n"

-- number and place of an open slot, and how often it was opened
unfoldable pub slot_line : ℕ → Option Slot → List ℕ
slot_line s None = []
slot_line s (Some held) =
    codes "sem " ++ decimal s ++ codes " " ++ decimal held.place ++ codes " "
    ++ decimal held.opens ++ codes "\n"

-- the open descriptors of process pid, in order
abbrev pub descriptor_lines : ℕ → WorldState → List ℕ
descriptor_lines pid w =
    texts_below open_max (λ d. descriptor_line d (descriptor_of w.kernel.processes pid d))

-- the open slots of process pid, in order
abbrev pub slot_lines : ℕ → WorldState → List ℕ
slot_lines pid w = texts_below open_max (λ s. slot_line s (slot_of w.kernel.processes pid s))

-- the open descriptors of process pid, and then its open slots; nothing where it isn't there
abbrev pub fds_text : ℕ → WorldState → List ℕ
fds_text pid w =
    if nat_lt pid (length w.processes) then descriptor_lines pid w ++ slot_lines pid w else []
