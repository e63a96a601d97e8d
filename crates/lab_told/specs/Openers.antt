-- Who could serve a call on an object.
use Rattle.std.specs.Prelude.{ℕ, zero, suc, ◌==◌, ◌&&◌, ◌||◌, not, Bool, false, Option, Some, None}
use Rattle.ipc_kernel.specs.Kernel.{KernelState}
use Rattle.ipc_kernel.specs.Limits.{open_max}
use Rattle.ipc_kernel.specs.Processes.{descriptor_of, slot_of, slot_refers}
use Rattle.ipc_kernel.specs.declared.process.Descriptor.{Descriptor}
use Rattle.ipc_traps.specs.declared.service.Service.{Service}
use Rattle.ipc_traps.specs.declared.service.Service.TheVariants.{MqSend, MqReceive}

-- whether a test holds for one of the numbers below n
unfoldable pub any_below : ℕ → (ℕ → Bool) → Bool
any_below zero test = false
any_below (suc n) test = any_below n test || test n

-- whether a descriptor refers to a place, and its access isn't this one
abbrev pub can_do : ℕ → ℕ → Option Descriptor → Bool
can_do place other None = false
can_do place other (Some d) = (d.place == place) && not (d.access == other)

-- whether process p could serve a call on an object by what it has open under a number: the queue to send or to receive, or the
-- semaphore
abbrev pub serves_by : KernelState → ℕ → ℕ → Service → ℕ → Bool
serves_by k p place MqReceive d = can_do place 0 (descriptor_of k.processes p d)
serves_by k p place MqSend d = can_do place 1 (descriptor_of k.processes p d)
serves_by k p place other slot = slot_refers place (slot_of k.processes p slot)

-- whether process p could serve a call on an object
abbrev pub has_open : KernelState → ℕ → Service → ℕ → Bool
has_open k place s p = any_below open_max (serves_by k p place s)
