-- What a trace looks at before a step.
use Rattle.std.specs.Prelude.{ℕ, Option, Some, None, length, slice_index}
use Rattle.std.specs.Option.{option_map}
use Rattle.lc3_machine.specs.Process.{Process as Machine, reg}
use Rattle.ipc_kernel.specs.Kernel.{KernelState}
use Rattle.lab_sched.specs.Worlds.{Process, machine_of}
use Rattle.lab_told.specs.Answers.{wants_attributes}
use Rattle.lab_told.specs.Calls.{arguments, object_called, place_of, sent_words}
use Rattle.lab_told.specs.Services.{service_at}
use Rattle.lab_told.specs.declared.asking.Asking.{Asking}
use Rattle.lab_told.specs.declared.asking.Observed.{Observed}
use Rattle.ipc_traps.specs.declared.service.Service.{Service}

-- a call that process p is about to make: its words, what it is on, and what it wants
abbrev pub question : KernelState → ℕ → Machine → Service → Asking
question k p m s = record {
  service = s;
  arguments = arguments k p m s;
  object = object_called k p m s;
  place = place_of k p m s;
  sent = sent_words m s;
  priority = reg m 3;
  wants_attributes = wants_attributes m s;
}

-- process p before its step, by its machine: its program counter, the word there, how many bytes it has written, and its call
abbrev pub before : KernelState → ℕ → Machine → Observed
before k p m =
    record { pc = m.pc; word = slice_index m.memory m.pc; written = length m.output; asking = option_map (question k p m) (service_at m) }

-- process p before its step
abbrev pub before_in : KernelState → ℕ → Option Process → Observed
before_in k p None = record { pc = 0; word = 0; written = 0; asking = None }
before_in k p (Some s) = before k p (machine_of s)
