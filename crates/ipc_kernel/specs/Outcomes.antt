-- How a call can end, and what it finds by the number of a descriptor or a slot. A name in brackets is the page of POSIX.1-2017.
use Rattle.std.specs.Prelude.{ℕ, ◌-◌, Option, Some, None, option_and_then, unwrap_or, if◌then◌else◌}
use Rattle.std.specs.Option.{option_map}
use Rattle.ipc_names.specs.Errno.{number_of}
use Rattle.ipc_names.specs.declared.errno.Errno.{Errno}
use Rattle.ipc_names.specs.declared.errno.Errno.TheVariants.{Again, NoEntry}
use Rattle.ipc_objects.specs.Queue.{QueueState, empty_queue}
use Rattle.ipc_kernel.specs.declared.process.Slot.{Slot}
use Rattle.ipc_kernel.specs.declared.process.Descriptor.{Descriptor}
use Rattle.ipc_kernel.specs.declared.call.Reply.{Reply}
use Rattle.ipc_kernel.specs.declared.call.Reply.TheVariants.{Plain}
use Rattle.ipc_kernel.specs.declared.call.Answer.{Answer}
use Rattle.ipc_kernel.specs.declared.call.Answer.TheVariants.{Done, Wait}
use Rattle.ipc_kernel.specs.Processes.{descriptor_of, slot_of}
use Rattle.ipc_kernel.specs.Places.{place_at, queue_in, semaphore_value, with_queue_in, with_value_in, without_name_in, places_or_empty}
use Rattle.ipc_kernel.specs.Kernel.{KernelState}

-- an answer, with the kernel after the call
abbrev pub Outcome : Type 0
Outcome = Answer × KernelState

-- a refused call changes nothing, and its reply is the negative of the error's number [errno.h]
abbrev pub refusal : KernelState → Errno → Outcome
refusal k e = (Done (Plain (65536 - number_of e)), k)

-- a call that must wait changes nothing
abbrev pub waiting : KernelState → Outcome
waiting k = (Wait, k)

-- after an answered call each place without a name that no process refers to is emptied
abbrev pub completion : KernelState → Reply → Outcome
completion k r = (Done r, record k { places = places_or_empty k.processes k.places })

-- a call that finds its queue full or empty waits, but on a descriptor with O_NONBLOCK it is refused [mq_send, mq_receive]
abbrev pub wait_or_again : KernelState → Descriptor → Outcome
wait_or_again k d = if d.nonblock then refusal k Again else waiting k

-- an object that is found loses its name, which is free at once [mq_unlink, sem_unlink]
abbrev pub unlink : KernelState → Option ℕ → Outcome
unlink k None = refusal k NoEntry
unlink k (Some place) = completion (record k { places = without_name_in k.places place }) (Plain 0)

-- a descriptor of process p, with the queue to which it refers
abbrev pub open_queue : KernelState → ℕ → ℕ → Option (Descriptor × QueueState)
open_queue k p d = option_and_then (λ held. option_map (λ q. (held, q)) (queue_in (place_at k.places held.place))) (descriptor_of k.processes p d)

-- the queue in a place, where there is one
abbrev pub queue_at : KernelState → ℕ → QueueState
queue_at k place = unwrap_or (queue_in (place_at k.places place)) (empty_queue (0, 0))

-- the kernel with another state of the queue in a place
abbrev pub with_queue_at : KernelState → ℕ → QueueState → KernelState
with_queue_at k place q = record k { places = with_queue_in k.places place q }

-- a slot of process p, with the value of the semaphore to which it refers
abbrev pub open_semaphore : KernelState → ℕ → ℕ → Option (Slot × ℕ)
open_semaphore k p s = option_and_then (λ slot. option_map (λ v. (slot, v)) (semaphore_value (place_at k.places slot.place))) (slot_of k.processes p s)

-- the kernel with another value of the semaphore in a place
abbrev pub with_value_at : KernelState → ℕ → ℕ → KernelState
with_value_at k place v = record k { places = with_value_in k.places place v }
