-- Where the messages in queues come from.
use Rattle.std.specs.Prelude.{ℕ, ◌==◌, ◌&&◌, nat_lt, not, Bool, if◌then◌else◌, Option, Some, None, List, [], ◌∷◌, ◌++◌, length, position}
use Rattle.std.specs.List.{find, filter, insert, remove}
use Rattle.ipc_kernel.specs.Kernel.{KernelState}
use Rattle.ipc_kernel.specs.Outcomes.{queue_at}
use Rattle.lab_told.specs.Answers.{call_done}
use Rattle.lab_told.specs.declared.origins.Origin.{Origin}
use Rattle.lab_told.specs.declared.told.Act.{Act}
use Rattle.lab_told.specs.declared.told.Act.TheVariants.{Calls}
use Rattle.ipc_traps.specs.declared.service.Service.{Service}
use Rattle.ipc_traps.specs.declared.service.Service.TheVariants.{MqOpen, MqSend, MqReceive}

-- whether a message is in the queue in a place
abbrev pub is_in : ℕ → Origin → Bool
is_in place o = o.place == place

-- whether a message is in the queue in a place, and of a lesser priority
abbrev pub is_below : ℕ → ℕ → Origin → Bool
is_below place priority o = (o.place == place) && nat_lt o.priority priority

-- a message before the one at this position, or behind the others where there is none
abbrev pub origins_with_at : Origin → List Origin → Option ℕ → List Origin
origins_with_at o os None = os ++ o ∷ []
origins_with_at o os (Some i) = insert os i o

-- a message goes before those of its queue that have a lesser priority
abbrev pub origins_with : Origin → List Origin → List Origin
origins_with o os = origins_with_at o os (position (is_below o.place o.priority) os)

-- the message of the queue in a place that is received first
unfoldable pub first : ℕ → List Origin → Option Origin
first place os = find (is_in place) os

-- the origins without that at this position
abbrev pub origins_without : List Origin → Option ℕ → List Origin
origins_without os None = os
origins_without os (Some i) = remove os i

-- the origins of messages in other queues
abbrev pub origins_without_queue : ℕ → List Origin → List Origin
origins_without_queue place os = filter (λ o. not (is_in place o)) os

-- after a call of process p in step n on the object in a place, which was answered and not refused; k is the kernel after it, and an
-- open that found a queue without messages may have made it
abbrev pub origins_called : KernelState → ℕ → ℕ → ℕ → Service → ℕ → List Origin → List Origin
origins_called k n p priority MqOpen place os = if length (queue_at k place).messages == 0 then origins_without_queue place os else os
origins_called k n p priority MqSend place os = origins_with (record { place = place; priority = priority; step = n; pid = p }) os
origins_called k n p priority MqReceive place os = origins_without os (position (is_in place) os)
origins_called k n p priority other place os = os

-- the same, where there is such a call; one that waits or was refused changes nothing
abbrev pub origins_by : KernelState → ℕ → ℕ → ℕ → Option (Service × ℕ) → List Origin → List Origin
origins_by k n p priority None os = os
origins_by k n p priority (Some call) os = origins_called k n p priority call.0 call.1 os

-- after what process p did in step n; k is the kernel after it
abbrev pub origins_after : KernelState → ℕ → ℕ → Act → List Origin → List Origin
origins_after k n p (Calls c) os = origins_by k n p c.priority (call_done c) os
origins_after k n p other os = os

-- the message that is received first from the queue in a place, where there is one
abbrev pub first_in : Option ℕ → List Origin → Option Origin
first_in None os = None
first_in (Some place) os = first place os

-- the message that a call receives from the queue in a place; another call than mq_receive receives none
abbrev pub origin_in : Service → Option ℕ → List Origin → Option Origin
origin_in MqReceive place os = first_in place os
origin_in other place os = None

-- where the message comes from that a call with this result received, if it isn't refused
abbrev pub origin_by : Service → Option ℕ → Option ℕ → List Origin → Option Origin
origin_by s place None os = None
origin_by s place (Some result) os = origin_in s place os
