-- Who last posted to each semaphore, and last received from each queue: so a call that waits can go on.
use Rattle.std.specs.Prelude.{ℕ, Bool, true, false, if◌then◌else◌, Option, Some, None, List, replicate, slice_get, slice_set}
use Rattle.std.specs.Option.{option_and_then}
use Rattle.ipc_kernel.specs.Limits.{object_places}
use Rattle.ipc_traps.specs.declared.service.Service.{Service}
use Rattle.ipc_traps.specs.declared.service.Service.TheVariants.{MqReceive, SemPost}

-- before the first step no process gave to an object
abbrev pub no_givers : List (Option ℕ)
no_givers = replicate object_places None

-- the step that last gave to the object in a place
abbrev pub giver_at : ℕ → List (Option ℕ) → Option ℕ
giver_at place gs = option_and_then (λ g. g) (slice_get gs place)

-- whether a call gives a unit to its semaphore, or room to its queue
abbrev pub is_giving : Service → Bool
is_giving SemPost = true
is_giving MqReceive = true
is_giving other = false

-- after step n, by its call if it was answered and not refused; one that waits or was refused gives nothing
abbrev pub givers_after : ℕ → Option (Service × ℕ) → List (Option ℕ) → List (Option ℕ)
givers_after n None gs = gs
givers_after n (Some call) gs = if is_giving call.0 then slice_set gs call.1 (Some n) else gs

-- the step that last gave to the object of a call, where it has one
abbrev pub giver_in : Option ℕ → List (Option ℕ) → Option ℕ
giver_in None gs = None
giver_in (Some place) gs = giver_at place gs

-- the giver of a call that waited, if it did
abbrev pub giver_since : Option ℕ → Option ℕ → List (Option ℕ) → Option ℕ
giver_since None place gs = None
giver_since (Some n) place gs = giver_in place gs

-- the giver of a call that waited, by the process's wait; mq_receive has the step that sent its message in place of one
abbrev pub giver_by : Service → Option ℕ → Option ℕ → List (Option ℕ) → Option ℕ
giver_by MqReceive since place gs = None
giver_by other since place gs = giver_since since place gs
