-- What became of a call.
use Rattle.std.specs.Prelude.{ℕ, ◌-◌, ◌==◌, Bool, if◌then◌else◌, Option, Some, None, is_some, List, [], ◌∷◌, length}
use Rattle.std.specs.List.{find}
use Rattle.lc3_machine.specs.Process.{Process as Machine}
use Rattle.ipc_names.specs.Errno.{number_of}
use Rattle.ipc_names.specs.declared.errno.Errno.{Errno}
use Rattle.ipc_names.specs.declared.errno.Errno.TheVariants.{NoEntry, BadDescriptor, Again, Fault, Exists, Invalid, TooManyOpen, NoSpace, NameTooLong, Overflow, MessageSize}
use Rattle.ipc_kernel.specs.declared.call.Reply.{Reply}
use Rattle.ipc_kernel.specs.declared.call.Reply.TheVariants.{Plain, Message, Attr, Value}
use Rattle.ipc_kernel.specs.declared.call.Answer.{Answer}
use Rattle.ipc_kernel.specs.declared.call.Answer.TheVariants.{Done, Wait}
use Rattle.ipc_traps.specs.Reply.{four_words_address}
use Rattle.ipc_traps.specs.declared.service.Service.{Service}
use Rattle.lab_sched.specs.declared.stepped.Stepped.{Stepped}
use Rattle.lab_sched.specs.declared.stepped.Stepped.TheVariants as stepped
use Rattle.lab_told.specs.declared.answers.Outcome.{Outcome}
use Rattle.lab_told.specs.declared.answers.Outcome.TheVariants.{Waits, Refused, Replied}
use Rattle.lab_told.specs.declared.told.Act.{Act}
use Rattle.lab_told.specs.declared.told.Act.TheVariants.{Calls}
use Rattle.lab_told.specs.declared.told.Called.{Called}

-- the errors
abbrev pub errors : List Errno
errors = NoEntry ∷ BadDescriptor ∷ Again ∷ Fault ∷ Exists ∷ Invalid ∷ TooManyOpen ∷ NoSpace ∷ NameTooLong ∷ Overflow ∷ MessageSize ∷ []

-- the error that a plain reply tells, if it does; no other is so great
unfoldable pub error_in : ℕ → Option Errno
error_in result = find (λ e. result == 65536 - number_of e) errors

-- the error that a reply tells, if it does: a plain one is a word
abbrev pub error_of : Reply → Option Errno
error_of (Plain word) = error_in word
error_of other = None

-- what became of a call with this reply, by the error that it tells
abbrev pub replied_by : Option Errno → Reply → Outcome
replied_by None reply = Replied reply
replied_by (Some e) reply = Refused e

-- what became of a call with this reply
abbrev pub replied : Reply → Outcome
replied reply = replied_by (error_of reply) reply

-- what became of a call with this answer of the kernel
abbrev pub answered : Answer → Outcome
answered Wait = Waits
answered (Done reply) = replied reply

-- what became of the call that a step made, if it made one, by what is told of the step
abbrev pub outcome_of : Stepped → Option Outcome
outcome_of (stepped.Refused e) = Some (Refused e)
outcome_of (stepped.Called reply) = Some (answered (Done reply))
outcome_of stepped.Waits = Some (answered Wait)
outcome_of stepped.Moved = None
outcome_of stepped.Same = None

-- whether a call wants the attributes of a queue that it is answered: there is an address for them
abbrev pub wants_attributes : Machine → Service → Bool
wants_attributes m s = is_some (four_words_address (Some s) m)

-- what became of a call, without the attributes that it doesn't want
abbrev pub wanted_of : Bool → Outcome → Outcome
wanted_of wants (Replied (Attr words)) = if wants then Replied (Attr words) else Replied (Plain 0)
wanted_of wants other = other

-- the result that a reply leaves in R0
abbrev pub result_in : Reply → ℕ
result_in (Plain word) = word
result_in (Message words prio) = length words
result_in (Attr words) = 0
result_in (Value value) = 0

-- the result of a call that was answered and not refused
abbrev pub result_of : Outcome → Option ℕ
result_of Waits = None
result_of (Refused e) = None
result_of (Replied reply) = Some (result_in reply)

-- a call on the object in a place, where it was answered and not refused
abbrev pub done_with : Outcome → Service → Option ℕ → Option (Service × ℕ)
done_with (Replied reply) s (Some place) = Some (s, place)
done_with outcome s place = None

-- a call and the place of its object, where it was answered and not refused
abbrev pub call_done : Called → Option (Service × ℕ)
call_done c = done_with c.outcome c.service c.place

-- the call that a process made, and the place of its object, where it was answered and not refused
abbrev pub act_done : Act → Option (Service × ℕ)
act_done (Calls c) = call_done c
act_done other = None
