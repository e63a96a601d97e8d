-- Steps by which a call is refused: by the kernel, or by the process itself before the kernel sees it.
use Rattle.std.specs.Prelude.{ℕ, ◌-◌, ◌==◌, Bool, true, not, nat_le, Option, Some, None, IsTrue, if◌then◌else◌}
use Rattle.ipc_names.specs.Errno.{number_of}
use Rattle.ipc_names.specs.declared.errno.Errno.{Errno}
use Rattle.ipc_names.specs.declared.errno.Errno.TheVariants.{Again}
use Rattle.ipc_kernel.specs.declared.call.Reply.{Reply}
use Rattle.ipc_kernel.specs.declared.call.Reply.TheVariants.{Plain, Message, Attr, Value}
use Rattle.lab_sched.specs.declared.stepped.Stepped.{Stepped}
use Rattle.lab_sched.specs.declared.stepped.Stepped.TheVariants.{Moved, Refused, Called, Waits, Same}
use Rattle.lab_sched.specs.Worlds.{WorldState}
use Rattle.lab_sched.specs.Held.{told_in}
use Rattle.lab_conditions.specs.declared.never.Refusal.{Refusal}
use Rattle.lab_conditions.specs.Conditions.{option_any}

-- the number of an error, of which a reply is the negative in 16 bits
abbrev pub error_replied : Reply → Option ℕ
error_replied (Plain word) = if nat_le 0x8000 word then Some (65536 - word) else None
error_replied (Message words prio) = None
error_replied (Attr words) = None
error_replied (Value value) = None

-- the number of the error with which a step is refused, by what is told of it
abbrev pub error_told : Stepped → Option ℕ
error_told Moved = None
error_told (Refused e) = Some (number_of e)
error_told (Called reply) = error_replied reply
error_told Waits = None
error_told Same = None

-- whether an error is meant, by its number: this one, or where none is named any but EAGAIN
abbrev pub is_error : Option Errno → ℕ → Bool
is_error None number = not (number == number_of Again)
is_error (Some e) number = number == number_of e

-- whether process p is meant: this one, or where none is named any
abbrev pub is_process : Option ℕ → ℕ → Bool
is_process None p = true
is_process (Some q) p = p == q

-- whether a step of which this is told is refused with an error that is meant
abbrev pub is_refused : Refusal → Stepped → Bool
is_refused r told = option_any (is_error r.error) (error_told told)

-- the step of process p is refused, and both are meant
abbrev pub Refuses : Refusal → WorldState → ℕ → Type 0
Refuses r w p = IsTrue (is_process r.process p) × IsTrue (is_refused r (told_in w p))
