-- What each decision of the kernel answers and changes, and when a kernel allows it.
use Rattle.std.specs.Prelude.{◌≡◌, ℕ, ◌+◌, ◌-◌, ◌<◌, ◌≤◌, ◌||◌, Bool, true, false, List, [], ◌∷◌, Some, None, slice_set, IfSome, IsSomeAnd, IsTrue}
use Rattle.ipc_objects.specs.declared.queue.Message.{Message}
use Rattle.ipc_objects.specs.Queue.{empty_queue, with_message, without_first}
use Rattle.ipc_objects.specs.Limits.{sem_value_max, mq_prio_max, mq_msgsize_max}
use Rattle.ipc_kernel.specs.Limits.{object_places, open_max}
use Rattle.ipc_kernel.specs.declared.place.Place.{Place}
use Rattle.ipc_kernel.specs.declared.place.Place.TheVariants.{Empty, Mq, Sem}
use Rattle.ipc_kernel.specs.declared.process.OpenTables.{OpenTables}
use Rattle.ipc_kernel.specs.declared.call.Call.{Call}
use Rattle.ipc_kernel.specs.declared.call.Call.TheVariants.{MqReceive}
use Rattle.ipc_kernel.specs.declared.call.Reply.{Reply}
use Rattle.ipc_kernel.specs.declared.call.Reply.TheVariants.{Plain, Attr, Value, Message as received}
use Rattle.ipc_kernel.specs.declared.call.Answer.{Answer}
use Rattle.ipc_kernel.specs.declared.kernel.decision.ShortReply.{ShortReply}
use Rattle.ipc_kernel.specs.declared.kernel.decision.ShortReply.TheVariants as short
use Rattle.ipc_kernel.specs.declared.kernel.decision.Change.{Change}
use Rattle.ipc_kernel.specs.declared.kernel.decision.Change.TheVariants.{Nothing, HoldDescriptor, HoldSlot, MakeQueue, MakeSemaphore, UnnameQueue, UnnameSemaphore, Send, Take, Post, CloseAll}
use Rattle.ipc_kernel.specs.declared.kernel.decision.Decision.{Decision}
use Rattle.ipc_kernel.specs.declared.kernel.decision.NewQueue.{NewQueue}
use Rattle.ipc_kernel.specs.declared.kernel.decision.NewSemaphore.{NewSemaphore}
use Rattle.ipc_kernel.specs.declared.kernel.decision.Decision.TheVariants.{Refused, Waits, Receives, Answered}
use Rattle.ipc_kernel.specs.Processes.{closed_process, with_descriptor, with_slot}
use Rattle.ipc_kernel.specs.Places.{place_at, queue_in, semaphore_value, without_name_in, queue_named, semaphore_named, are_sizes}
use Rattle.ipc_kernel.specs.Private.Messages.{HasRoomFor, HasMessage, message_length}
use Rattle.ipc_kernel.specs.Kernel.{KernelState}
use Rattle.ipc_kernel.specs.Outcomes.{Outcome, refusal, waiting, completion, queue_at, with_queue_at, with_value_at}

-- the kernel of these places and these tables of the processes
abbrev pub kernel_of : List Place → List OpenTables → KernelState
kernel_of places processes = record { places = places; processes = processes }

-- the reply with the first of these messages, where there is one
abbrev pub reply_with_first : List Message → Reply
reply_with_first [] = Plain 0
reply_with_first (m ∷ rest) = received m.words m.priority

-- the reply that a short one is
abbrev pub reply_of : ShortReply → Reply
reply_of (short.Plain word) = Plain word
reply_of (short.Attr words) = Attr words
reply_of (short.Value word) = Value word

-- the kernel whose object in a place has lost its name
abbrev pub without_name_at : KernelState → ℕ → KernelState
without_name_at k place = record k { places = without_name_in k.places place }

-- the kernel after a change by process p, before the places that nothing keeps are emptied
abbrev pub after_change : KernelState → ℕ → Change → KernelState
after_change k p Nothing = k
after_change k p (HoldDescriptor d held) = record k { processes = with_descriptor k.processes p d held }
after_change k p (HoldSlot s held) = record k { processes = with_slot k.processes p s held }
after_change k p (MakeQueue new) =
    record {
      places = slice_set k.places new.held.place (Mq (Some new.name.now) (empty_queue (new.max_messages, new.message_size)));
      processes = with_descriptor k.processes p new.mqd (Some new.held);
    }
after_change k p (MakeSemaphore new) =
    record {
      places = slice_set k.places new.place (Sem (Some new.name.now) new.value);
      processes = with_slot k.processes p new.slot (Some (record { place = new.place; opens = 1 }));
    }
after_change k p (UnnameQueue place name) = without_name_at k place
after_change k p (UnnameSemaphore place name) = without_name_at k place
after_change k p (Send place words prio) = with_queue_at k place (with_message prio words.now (queue_at k place))
after_change k p (Take place value) = with_value_at k place (value - 1)
after_change k p (Post place value) = with_value_at k place (value + 1)
after_change k p CloseAll = record k { processes = slice_set k.processes p closed_process }

-- what a decision on a call of process p answers, and the kernel after it
abbrev pub outcome_of : KernelState → ℕ → Decision → Outcome
outcome_of k p (Refused e) = refusal k e
outcome_of k p Waits = waiting k
outcome_of k p (Receives place) = completion (with_queue_at k place (without_first (queue_at k place))) (reply_with_first (queue_at k place).messages)
outcome_of k p (Answered reply change) = completion (after_change k p change) (reply_of reply)

-- a new queue is open on a descriptor of the process, in an empty place, with sizes in their ranges and a name that is free
abbrev pub CanMakeQueue : KernelState → NewQueue → Type 0
CanMakeQueue k new =
    (new.mqd < open_max) × (new.held.place < object_places) × IsTrue (are_sizes (new.max_messages, new.message_size))
    × (place_at k.places new.held.place ≡ Empty) × (queue_named k.places new.name.now ≡ None)

-- a new semaphore is open on a slot of the process, in an empty place, with a value in its range and a name that is free
abbrev pub CanMakeSemaphore : KernelState → NewSemaphore → Type 0
CanMakeSemaphore k new =
    (new.slot < open_max) × (new.place < object_places) × (new.value ≤ sem_value_max)
    × (place_at k.places new.place ≡ Empty) × (semaphore_named k.places new.name.now ≡ None)

-- whether a kernel allows a change
abbrev pub CanChange : KernelState → Change → Type 0
CanChange k Nothing = Unit {0}
CanChange k (HoldDescriptor d held) = (d < open_max) × IfSome held (λ x. x.place < object_places)
CanChange k (HoldSlot s held) = (s < open_max) × IfSome held (λ x. x.place < object_places)
CanChange k (MakeQueue new) = CanMakeQueue k new
CanChange k (MakeSemaphore new) = CanMakeSemaphore k new
CanChange k (UnnameQueue place name) = queue_named k.places name.now ≡ Some place
CanChange k (UnnameSemaphore place name) = semaphore_named k.places name.now ≡ Some place
CanChange k (Send place words prio) = IsSomeAnd (queue_in (place_at k.places place)) (HasRoomFor words.now) × (prio < mq_prio_max)
CanChange k (Take place value) = semaphore_value (place_at k.places place) ≡ Some value
CanChange k (Post place value) = (semaphore_value (place_at k.places place) ≡ Some value) × (value < sem_value_max)
CanChange k CloseAll = Unit {0}

-- whether a kernel allows what is decided
abbrev pub IsPossible : KernelState → Decision → Type 0
IsPossible k (Refused e) = Unit {0}
IsPossible k Waits = Unit {0}
IsPossible k (Receives place) = IsSomeAnd (queue_in (place_at k.places place)) HasMessage
IsPossible k (Answered reply change) = CanChange k change

-- whether a decision is to take a message
abbrev pub decision_receives : Decision → Bool
decision_receives (Receives place) = true
decision_receives other = false

-- whether a change can take memory
abbrev pub change_may_grow : Change → Bool
change_may_grow (MakeQueue new) = true
change_may_grow (MakeSemaphore new) = true
change_may_grow (Send place words prio) = true
change_may_grow other = false

-- whether a decision can take memory
abbrev pub decision_may_grow : Decision → Bool
decision_may_grow (Answered reply change) = change_may_grow change
decision_may_grow other = false

-- whether a decision can take memory, or its reply has the words of a message, which a copy shares
abbrev pub decision_may_share : Decision → Bool
decision_may_share d = decision_receives d || decision_may_grow d

-- the message with which mq_receive is answered has at most the words that the buffer holds
abbrev pub FitsBuffer : Call → Answer → Type 0
FitsBuffer call a = (d len : ℕ) → call ≡ MqReceive d len → message_length a ≤ len

-- the message with which mq_receive is answered has at most mq_msgsize_max words
abbrev pub FitsLimit : Call → Answer → Type 0
FitsLimit call a = (d len : ℕ) → call ≡ MqReceive d len → message_length a ≤ mq_msgsize_max

-- whether a change leaves each name, and what is open, as they were
abbrev pub keeps_references : Change → Bool
keeps_references Nothing = true
keeps_references (Send place words prio) = true
keeps_references (Take place value) = true
keeps_references (Post place value) = true
keeps_references other = false
