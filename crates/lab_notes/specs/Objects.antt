-- The semaphores and queues of a run, by who made them.
use Rattle.std.specs.Bool.{beq}
use Rattle.std.specs.Prelude.{ℕ, zero, suc, Bool, true, false, ◌==◌, ◌&&◌, ◌||◌, bytes_eq, Option, Some, None, is_some, List, [], ◌∷◌, ◌++◌, if◌then◌else◌, length}
use Rattle.std.specs.List.{find}
use Rattle.ipc_kernel.specs.Kernel.{KernelState}
use Rattle.ipc_kernel.specs.Places.{place_at}
use Rattle.ipc_kernel.specs.declared.place.Place.{Place}
use Rattle.ipc_kernel.specs.declared.place.Place.TheVariants.{Empty, Mq, Sem}
use Rattle.ipc_traps.specs.Services.{is_on_queues}
use Rattle.ipc_traps.specs.declared.service.Service.TheVariants.{MqReceive, MqSend, SemWait}
use Rattle.lab_told.specs.Openers.{has_open}
use Rattle.lab_told.specs.declared.handles.Level.{Level}
use Rattle.lab_told.specs.declared.handles.Level.TheVariants.{Value}
use Rattle.lab_told.specs.declared.told.Called.{Called}
use Rattle.lab_notes.specs.declared.objects.Made.{Made}

-- whether something was made in this place
abbrev pub is_in : ℕ → Made → Bool
is_in place m = m.place == place

-- whether something was made by the name that a call names
abbrev pub is_namesake : Called → Made → Bool
is_namesake c m = beq m.is_queue (is_on_queues c.service) && bytes_eq m.name c.object

-- the value that an open leaves a semaphore with; 0 of a queue
abbrev pub value_in : Option Level → ℕ
value_in (Some (Value v)) = v
value_in other = 0

-- what an open of process p makes in a place
abbrev pub made_of : ℕ → Called → ℕ → Made
made_of p c place =
    record { place = place; is_queue = is_on_queues c.service; name = c.object; pid = p; value = value_in c.level }

-- what is there, with what an open of process p made in a place, unless something stood there
abbrev pub made_with : ℕ → Called → ℕ → List Made → List Made
made_with p c place made = if is_some (find (is_in place) made) then made else made ++ (made_of p c place ∷ [])

-- whether a queue, or a semaphore, stands in a place
abbrev pub is_kind : Bool → Place → Bool
is_kind is_queue Empty = false
is_kind is_queue (Mq name queue) = is_queue
is_kind is_queue (Sem name value) = if is_queue then false else true

-- whether what was made is there
abbrev pub is_there : KernelState → Made → Bool
is_there k m = is_kind m.is_queue (place_at k.places m.place)

-- whether process p has something open that was made
abbrev pub has_object_open : KernelState → Made → ℕ → Bool
has_object_open k m p =
    if m.is_queue then has_open k m.place MqReceive p || has_open k m.place MqSend p else has_open k m.place SemWait p

-- the first number below n for which a test holds
abbrev pub or_this : ℕ → Bool → Option ℕ → Option ℕ
or_this n holds (Some i) = Some i
or_this n true None = Some n
or_this n false None = None

unfoldable pub first_below : ℕ → (ℕ → Bool) → Option ℕ
first_below zero test = None
first_below (suc n) test = or_this n (test n) (first_below n test)

-- the first process that has something open that was made
abbrev pub holder_of : KernelState → Made → Option ℕ
holder_of k m = first_below (length k.processes) (has_object_open k m)
