-- Calls of a kind: of one name, on the object of one name or on any.
use Rattle.std.specs.Prelude.{ℕ, ◌&&◌, Bool, true, false, Option, Some, None, is_none, option_and_then, List, codes}
use Rattle.std.specs.Str.{bytes_eq}
use Rattle.std.specs.List.{list_any}
use Rattle.ipc_kernel.specs.declared.call.Call.{Call}
use Rattle.ipc_kernel.specs.declared.call.Call.TheVariants.{MqOpen, MqClose, MqUnlink, MqSend, MqReceive, MqGetattr, MqSetattr, SemOpen, SemClose, SemUnlink, SemWait, SemTrywait, SemPost, SemGetvalue, Exit}
use Rattle.ipc_kernel.specs.declared.call.Answer.{Answer}
use Rattle.ipc_kernel.specs.declared.call.Answer.TheVariants.{Done, Wait}
use Rattle.ipc_kernel.specs.declared.place.Place.{Place}
use Rattle.ipc_kernel.specs.declared.place.Place.TheVariants.{Empty, Mq, Sem}
use Rattle.ipc_kernel.specs.Kernel.{KernelState}
use Rattle.ipc_kernel.specs.Places.{place_at, is_name}
use Rattle.ipc_kernel.specs.Processes.{descriptor_of, slot_of}
use Rattle.ipc_traps.specs.declared.service.Service.{Service}
use Rattle.ipc_traps.specs.Services.{service_name}
use Rattle.lab_conditions.specs.Refusals.{error_replied}
use Rattle.lab_ways.specs.declared.calls.CallKind.{CallKind}

-- the name that POSIX.1-2017 gives a call, or the end of a process
abbrev pub call_name : Call → List ℕ
call_name (MqOpen name flags attr) = codes "mq_open"
call_name (MqClose d) = codes "mq_close"
call_name (MqUnlink name) = codes "mq_unlink"
call_name (MqSend d words prio) = codes "mq_send"
call_name (MqReceive d len) = codes "mq_receive"
call_name (MqGetattr d) = codes "mq_getattr"
call_name (MqSetattr d flags) = codes "mq_setattr"
call_name (SemOpen name flags value) = codes "sem_open"
call_name (SemClose s) = codes "sem_close"
call_name (SemUnlink name) = codes "sem_unlink"
call_name (SemWait s) = codes "sem_wait"
call_name (SemTrywait s) = codes "sem_trywait"
call_name (SemPost s) = codes "sem_post"
call_name (SemGetvalue s) = codes "sem_getvalue"
call_name Exit = codes "_exit"

-- the name of the object in a place, until it is unlinked
abbrev pub object_name : Place → Option (List ℕ)
object_name Empty = None
object_name (Mq name queue) = name
object_name (Sem name value) = name

-- the name of the queue behind a descriptor of process p
abbrev pub queue_behind : KernelState → ℕ → ℕ → Option (List ℕ)
queue_behind k p d = option_and_then (λ held. object_name (place_at k.places held.place)) (descriptor_of k.processes p d)

-- the name of the semaphore behind a slot of process p
abbrev pub semaphore_behind : KernelState → ℕ → ℕ → Option (List ℕ)
semaphore_behind k p s = option_and_then (λ held. object_name (place_at k.places held.place)) (slot_of k.processes p s)

-- the name of the object that a call of process p is on: the call has it, or the object behind its descriptor or slot
abbrev pub name_called : KernelState → ℕ → Call → Option (List ℕ)
name_called k p (MqOpen name flags attr) = Some name
name_called k p (MqClose d) = queue_behind k p d
name_called k p (MqUnlink name) = Some name
name_called k p (MqSend d words prio) = queue_behind k p d
name_called k p (MqReceive d len) = queue_behind k p d
name_called k p (MqGetattr d) = queue_behind k p d
name_called k p (MqSetattr d flags) = queue_behind k p d
name_called k p (SemOpen name flags value) = Some name
name_called k p (SemClose s) = semaphore_behind k p s
name_called k p (SemUnlink name) = Some name
name_called k p (SemWait s) = semaphore_behind k p s
name_called k p (SemTrywait s) = semaphore_behind k p s
name_called k p (SemPost s) = semaphore_behind k p s
name_called k p (SemGetvalue s) = semaphore_behind k p s
name_called k p Exit = None

-- whether a call is that of a service
abbrev pub is_called : Service → Call → Bool
is_called s c = bytes_eq (service_name s) (call_name c)

-- whether a call of process p is on the object of this name, or on any where none is given
abbrev pub is_on : Option (List ℕ) → KernelState → ℕ → Call → Bool
is_on None k p c = true
is_on (Some name) k p c = is_name name (name_called k p c)

-- whether a call of process p over a kernel is of a kind
abbrev pub is_of : CallKind → KernelState → ℕ → Call → Bool
is_of x k p c = is_called x.service c && is_on x.object k p c

-- whether it is of one of these kinds
abbrev pub is_of_any : List CallKind → KernelState → ℕ → Call → Bool
is_of_any xs k p c = list_any (λ x. is_of x k p c) xs

-- whether a call is the end of its process
abbrev pub is_exit : Call → Bool
is_exit Exit = true
is_exit other = false

-- whether an answer is a reply that is no error
abbrev pub is_success : Answer → Bool
is_success Wait = false
is_success (Done r) = is_none (error_replied r)
