-- What each call on message queues gives, by the first row that fits. A name in brackets is the page of POSIX.1-2017.
use Rattle.std.specs.Prelude.{ℕ, ◌-◌, ◌==◌, nat_lt, nat_le, length, ◌&&◌, not, List, [], ◌∷◌, Option, Some, None, slice_set, slice_index, Result, Ok, Err, if◌then◌else◌, position}
use Rattle.ipc_names.specs.Flags.{has_flag, o_nonblock}
use Rattle.ipc_names.specs.declared.flags.Flags.{Flags}
use Rattle.ipc_names.specs.declared.errno.Errno.{Errno}
use Rattle.ipc_names.specs.declared.errno.Errno.TheVariants.{NoEntry, BadDescriptor, MessageSize, Exists, Invalid, TooManyOpen, NoSpace}
use Rattle.ipc_objects.specs.declared.queue.Message.{Message}
use Rattle.ipc_objects.specs.Queue.{QueueState, empty_queue, with_message}
use Rattle.ipc_objects.specs.Limits.{mq_prio_max, mq_maxmsg_default, mq_msgsize_default}
use Rattle.ipc_kernel.specs.declared.place.Place.TheVariants.{Mq}
use Rattle.ipc_kernel.specs.declared.process.Descriptor.{Descriptor}
use Rattle.ipc_kernel.specs.declared.call.Reply.TheVariants.{Plain, Message as received, Attr}
use Rattle.ipc_kernel.specs.Processes.{free_descriptor_of, with_descriptor}
use Rattle.ipc_kernel.specs.Places.{is_empty, are_sizes, queue_named}
use Rattle.ipc_kernel.specs.Kernel.{KernelState}
use Rattle.ipc_kernel.specs.Outcomes.{Outcome, refusal, completion, wait_or_again, with_queue_at}

-- mq_maxmsg and mq_msgsize as they are asked for; the other two attributes are ignored [mq_open]
abbrev pub sizes_asked : Option (List ℕ) → ℕ × ℕ
sizes_asked None = (mq_maxmsg_default, mq_msgsize_default)
sizes_asked (Some attr) = (slice_index attr 1, slice_index attr 2)

-- a descriptor for the queue in a place, by the access mode and O_NONBLOCK [mq_open]
abbrev pub descriptor_for : ℕ → Flags → Descriptor
descriptor_for place flags = record { place = place; access = flags.access; nonblock = flags.nonblock }

-- the queue in a place is opened on the least free descriptor, where there is one [mq_open]
abbrev pub new_descriptor : KernelState → ℕ → ℕ → Flags → Option ℕ → Outcome
new_descriptor k p place flags None = refusal k TooManyOpen
new_descriptor k p place flags (Some d) = completion (record k { processes = with_descriptor k.processes p d (Some (descriptor_for place flags)) }) (Plain d)

-- a new queue stands in the least empty place, where there is one, and is open on descriptor d [mq_open]
abbrev pub mq_create_at : KernelState → ℕ → ℕ → List ℕ → ℕ × ℕ → Flags → Option ℕ → Outcome
mq_create_at k p d name sizes flags None = refusal k NoSpace
mq_create_at k p d name sizes flags (Some place) =
    completion (record {
      places = slice_set k.places place (Mq (Some name) (empty_queue sizes));
      processes = with_descriptor k.processes p d (Some (descriptor_for place flags));
    }) (Plain d)

-- a new queue needs a free descriptor before it needs a place [mq_open]
abbrev pub mq_create : KernelState → ℕ → List ℕ → ℕ × ℕ → Flags → Option ℕ → Outcome
mq_create k p name sizes flags None = refusal k TooManyOpen
mq_create k p name sizes flags (Some d) = mq_create_at k p d name sizes flags (position is_empty k.places)

-- a queue that exists is opened, but with O_CREAT and O_EXCL refused; one that does not is made with O_CREAT [mq_open]
abbrev pub mq_look_up : KernelState → ℕ → List ℕ → ℕ × ℕ → Flags → Option ℕ → Outcome
mq_look_up k p name sizes flags None = if flags.create then mq_create k p name sizes flags (free_descriptor_of k.processes p) else refusal k NoEntry
mq_look_up k p name sizes flags (Some place) = if flags.create && flags.excl then refusal k Exists else new_descriptor k p place flags (free_descriptor_of k.processes p)

-- the flags are tested first, and with O_CREAT the attributes, whether the queue exists or not [mq_open]
abbrev pub mq_open : KernelState → ℕ → List ℕ → ℕ × ℕ → Result Flags Errno → Outcome
mq_open k p name sizes (Err e) = refusal k e
mq_open k p name sizes (Ok flags) =
    if flags.create && not (are_sizes sizes) then refusal k Invalid
    else mq_look_up k p name sizes flags (queue_named k.places name)

-- the descriptor is free again [mq_close]
abbrev pub mq_close : KernelState → ℕ → ℕ → Option Descriptor → Outcome
mq_close k p d None = refusal k BadDescriptor
mq_close k p d (Some held) = completion (record k { processes = with_descriptor k.processes p d None }) (Plain 0)

-- a message goes behind those of its priority or a greater one; a descriptor to read alone is a bad one [mq_send]
abbrev pub mq_send : KernelState → ℕ → List ℕ → Option (Descriptor × QueueState) → Outcome
mq_send k prio words None = refusal k BadDescriptor
mq_send k prio words (Some held) =
    if held.0.access == 0 then refusal k BadDescriptor
    else if nat_le mq_prio_max prio then refusal k Invalid
    else if nat_lt held.1.message_size (length words) then refusal k MessageSize
    else if nat_le held.1.max_messages (length held.1.messages) then wait_or_again k held.0
    else completion (with_queue_at k held.0.place (with_message prio words held.1)) (Plain 0)

-- the oldest message of the greatest priority stands first, and is taken out [mq_receive]
abbrev pub take_first : KernelState → Descriptor → QueueState → List Message → Outcome
take_first k d q [] = wait_or_again k d
take_first k d q (m ∷ rest) = completion (with_queue_at k d.place (record q { messages = rest })) (received m.words m.priority)

-- the buffer must hold the longest message that the queue allows; a descriptor to write alone is a bad one [mq_receive]
abbrev pub mq_receive : KernelState → ℕ → Option (Descriptor × QueueState) → Outcome
mq_receive k len None = refusal k BadDescriptor
mq_receive k len (Some held) =
    if held.0.access == 1 then refusal k BadDescriptor
    else if nat_lt len held.1.message_size then refusal k MessageSize
    else take_first k held.0 held.1 held.1.messages

-- mq_flags, mq_maxmsg, mq_msgsize and mq_curmsgs [mqueue.h]
abbrev pub attributes : Descriptor → QueueState → List ℕ
attributes d q = (if d.nonblock then o_nonblock else 0) ∷ q.max_messages ∷ q.message_size ∷ length q.messages ∷ []

-- the attributes are told [mq_getattr]
abbrev pub mq_getattr : KernelState → Option (Descriptor × QueueState) → Outcome
mq_getattr k None = refusal k BadDescriptor
mq_getattr k (Some held) = completion k (Attr (attributes held.0 held.1))

-- O_NONBLOCK of this descriptor alone is set or cleared, and the attributes before it are told [mq_setattr]
abbrev pub mq_setattr : KernelState → ℕ → ℕ → ℕ → Option (Descriptor × QueueState) → Outcome
mq_setattr k p d flags None = refusal k BadDescriptor
mq_setattr k p d flags (Some held) =
    if has_flag (0xffff - o_nonblock) flags then refusal k Invalid
    else completion (record k { processes = with_descriptor k.processes p d (Some (record held.0 { nonblock = has_flag o_nonblock flags })) }) (Attr (attributes held.0 held.1))
