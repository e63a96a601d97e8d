-- What the next step of a process asks for: the calls of POSIX.1-2017 (mq_open, mq_send, .. sem_getvalue), with their
-- arguments in registers R0 to R3 and in memory.
use Rattle.std.specs.Prelude.{ℕ, ◌==◌, ◌&&◌, ◌||◌, not, Bool, true, List, Option, Some, None, slice_index, if◌then◌else◌, Result, Ok, Err}
use Rattle.lc3_machine.specs.declared.want.How.{How}
use Rattle.lc3_machine.specs.declared.want.Want.TheVariants.{Trap, End}
use Rattle.lc3_machine.specs.Process.{Process, Outcome, GoesOn, Stops, reg}
use Rattle.lc3_machine.specs.Effects.{next_step}
use Rattle.ipc_names.specs.declared.errno.Errno.{Errno}
use Rattle.ipc_names.specs.declared.errno.Errno.TheVariants.{Fault}
use Rattle.ipc_names.specs.Name.{name_read}
use Rattle.ipc_names.specs.Flags.{has_flag, o_creat}
use Rattle.ipc_kernel.specs.declared.call.Call.{Call}
use Rattle.ipc_kernel.specs.declared.call.Call.TheVariants.{MqOpen, MqClose, MqUnlink, MqSend, MqReceive, MqGetattr, MqSetattr, SemOpen, SemClose, SemUnlink, SemWait, SemTrywait, SemPost, SemGetvalue, Exit}
use Rattle.ipc_traps.specs.declared.Asked.{Asked}
use Rattle.ipc_traps.specs.declared.Asked.TheVariants as asked_for
use Rattle.ipc_traps.specs.declared.service.Service.{Service}
use Rattle.ipc_traps.specs.declared.service.Service.TheVariants as service
use Rattle.ipc_traps.specs.Services.{service_in}
use Rattle.ipc_traps.specs.Names.{is_in_memory, words_at, reaches_devices, name_words}

-- what the next step is: a local step with the process after it, a refusal, a call of the kernel, or the end
pub data Request : Type 0 where
  Local : Process → Request
  Refuses : Errno → Request
  Calls : Call → Request
  Ends : How → Request

-- a call whose memory ranges must lie below the device registers, else EFAULT
abbrev pub request_within : Bool → Request → Request
request_within inside request = if inside then request else Refuses Fault

-- the request for a call by a name that was read
abbrev pub request_for_name : (List ℕ → Call) → Result (List ℕ) Errno → Request
request_for_name call (Err e) = Refuses e
request_for_name call (Ok name) = Calls (call name)

-- the name at the address in R0: EFAULT if it reaches the device registers, then ENAMETOOLONG, then EINVAL for its form
unfoldable pub name_at : Process → Result (List ℕ) Errno
name_at p = if reaches_devices p.memory (reg p 0) then Err Fault else name_read (name_words p.memory (reg p 0))

-- a call by that name; its other memory ranges are looked at before the name's length and form
abbrev pub request_by_name : Process → Bool → (List ℕ → Call) → Request
request_by_name p inside call = request_within inside (request_for_name call (name_at p))

-- whether mq_open is given attributes: O_CREAT is set, and their address in R2 is not 0
abbrev pub has_attributes : Process → Bool
has_attributes p = has_flag o_creat (reg p 1) && not (reg p 2 == 0)

-- the attributes for mq_open
abbrev pub attributes : Process → Option (List ℕ)
attributes p = if has_attributes p then Some (words_at p.memory (reg p 2) 4) else None

-- mq_open: name at R0, flags R1, attributes at R2
abbrev pub mq_open_request : Process → Request
mq_open_request p =
    request_by_name p (not (has_attributes p) || is_in_memory (reg p 2) 4)
    (λ name. MqOpen name (reg p 1) (attributes p))

-- sem_open: name at R0, flags R1, first value R2
abbrev pub sem_open_request : Process → Request
sem_open_request p = request_by_name p true (λ name. SemOpen name (reg p 1) (reg p 2))

-- mq_send: descriptor R0, buffer at R1, length R2, priority R3
abbrev pub mq_send_request : Process → Request
mq_send_request p =
    request_within (is_in_memory (reg p 1) (reg p 2))
    (Calls (MqSend (reg p 0) (words_at p.memory (reg p 1) (reg p 2)) (reg p 3)))

-- mq_receive: descriptor R0, buffer at R1, length R2, the priority goes to R3 unless that is 0
abbrev pub mq_receive_request : Process → Request
mq_receive_request p =
    request_within (is_in_memory (reg p 1) (reg p 2) && ((reg p 3 == 0) || is_in_memory (reg p 3) 1))
    (Calls (MqReceive (reg p 0) (reg p 2)))

-- mq_getattr: descriptor R0, attributes go to R1
abbrev pub mq_getattr_request : Process → Request
mq_getattr_request p = request_within (is_in_memory (reg p 1) 4) (Calls (MqGetattr (reg p 0)))

-- mq_setattr: descriptor R0, new attributes at R1, the old ones go to R2 unless that is 0
abbrev pub mq_setattr_request : Process → Request
mq_setattr_request p =
    request_within (is_in_memory (reg p 1) 4 && ((reg p 2 == 0) || is_in_memory (reg p 2) 4))
    (Calls (MqSetattr (reg p 0) (slice_index p.memory (reg p 1))))

-- sem_getvalue: slot R0, the value goes to R1
abbrev pub sem_getvalue_request : Process → Request
sem_getvalue_request p = request_within (is_in_memory (reg p 1) 1) (Calls (SemGetvalue (reg p 0)))

-- what a call of the kernel asks for
abbrev pub service_request : Service → Process → Request
service_request service.MqOpen p = mq_open_request p
service_request service.MqClose p = Calls (MqClose (reg p 0))
service_request service.MqUnlink p = request_by_name p true MqUnlink
service_request service.MqSend p = mq_send_request p
service_request service.MqReceive p = mq_receive_request p
service_request service.MqGetattr p = mq_getattr_request p
service_request service.MqSetattr p = mq_setattr_request p
service_request service.SemOpen p = sem_open_request p
service_request service.SemClose p = Calls (SemClose (reg p 0))
service_request service.SemUnlink p = request_by_name p true SemUnlink
service_request service.SemWait p = Calls (SemWait (reg p 0))
service_request service.SemTrywait p = Calls (SemTrywait (reg p 0))
service_request service.SemPost p = Calls (SemPost (reg p 0))
service_request service.SemGetvalue p = sem_getvalue_request p

-- what a trap asks for; before one that is no call of the kernel a process is at its end
abbrev pub trap_request : Option Service → Process → Request
trap_request (Some s) p = service_request s p
trap_request None p = Calls Exit

-- what an outcome of the machine asks for
abbrev pub outcome_request : Process → Outcome → Request
outcome_request p (GoesOn q) = Local q
outcome_request p (Stops (Trap v)) = trap_request (service_in v) p
outcome_request p (Stops (End how)) = Ends how

-- what the next step of a process asks for
unfoldable pub next_request : Process → Request
next_request p = outcome_request p (next_step p)

-- what a process asks by a trap, as it was read
abbrev pub request_of : Asked → Request
request_of (asked_for.Kernel call) = Calls call
request_of (asked_for.Refused e) = Refuses e

-- what the kernel is asked for where a process ends: that all it has open is closed
abbrev pub exit_at_end : Request → Request
exit_at_end (Local p) = Local p
exit_at_end (Refuses e) = Refuses e
exit_at_end (Calls call) = Calls call
exit_at_end (Ends how) = Calls Exit

-- what a process that stands before a call or its end asks of the kernel
unfoldable pub kernel_request : Process → Request
kernel_request p = exit_at_end (next_request p)
