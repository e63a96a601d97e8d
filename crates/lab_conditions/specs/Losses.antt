-- Messages, and steps that lose one.
use Rattle.std.specs.Prelude.{ℕ, ◌≡◌, ◌<◌, Bool, false, sum_by, length, take}
use Rattle.ipc_kernel.specs.Limits.{object_places}
use Rattle.ipc_kernel.specs.declared.place.Place.{Place}
use Rattle.ipc_kernel.specs.declared.place.Place.TheVariants.{Empty, Mq, Sem}
use Rattle.ipc_kernel.specs.Kernel.{KernelState}
use Rattle.ipc_kernel.specs.Answer.{is_receive}
use Rattle.lab_sched.specs.Worlds.{Process, WorldState, StepEffect, nothing, local_step, kernel_step, step_effect_in, step}
use Rattle.lab_conditions.specs.Conditions.{option_any, call_of}

-- how many messages are in the queue in a place, with a name or without
abbrev pub messages_at : Place → ℕ
messages_at Empty = 0
messages_at (Mq name queue) = length queue.messages
messages_at (Sem name value) = 0

-- how many messages are in all queues
abbrev pub messages : KernelState → ℕ
messages k = sum_by messages_at (take object_places k.places)

-- whether a process is about to receive a message, or waits for one
abbrev pub is_receiving : Process → Bool
is_receiving s = option_any is_receive (call_of s)

-- whether a step receives a message
abbrev pub receives : StepEffect → Bool
receives nothing = false
receives (local_step n) = false
receives (kernel_step m c a) = is_receive c

-- the step of process p receives no message, and after it there are fewer than before
pub record Loses (w : WorldState) (p : ℕ) : Type 0 where
  pub receives_none : receives (step_effect_in w p) ≡ false
  pub fewer : messages (step w p).kernel < messages w.kernel
