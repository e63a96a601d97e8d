-- The call of the kernel that a process stands before.
use Rattle.std.specs.Prelude.{ℕ, nat_lt, slice_index, if◌then◌else◌, Option, Some, None}
use Rattle.lc3_table.specs.declared.instr.Instr.{Instr}
use Rattle.lc3_table.specs.declared.instr.Instr.TheVariants.{Trap}
use Rattle.lc3_table.specs.Decoding.{instruction_at}
use Rattle.lc3_machine.specs.Process.{Process as Machine}
use Rattle.lc3_word.specs.Segment.{first_device}
use Rattle.ipc_traps.specs.declared.service.Service.{Service}
use Rattle.ipc_traps.specs.Services.{service_in}

-- the call that an instruction makes
abbrev pub service_of : Option Instr → Option Service
service_of (Some (Trap vector)) = service_in vector
service_of other = None

-- the call that a word makes as an instruction
abbrev pub service_of_word : ℕ → Option Service
service_of_word word = service_of (instruction_at word)

-- the call that a process stands before; none in the device registers
unfoldable pub service_at : Machine → Option Service
service_at m = if nat_lt m.pc first_device then service_of_word (slice_index m.memory m.pc) else None
