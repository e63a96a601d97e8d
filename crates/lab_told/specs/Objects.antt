-- Descriptors, slots and the objects that they stand for.
use Rattle.std.specs.Prelude.{ℕ, if◌then◌else◌, Option, Some, None, List, [], ◌++◌, codes, length}
use Rattle.std.specs.Option.{option_map}
use Rattle.std.specs.Fmt.{decimal}
use Rattle.ipc_kernel.specs.Kernel.{KernelState}
use Rattle.ipc_kernel.specs.Places.{place_at}
use Rattle.ipc_kernel.specs.Processes.{descriptor_of, slot_of}
use Rattle.ipc_kernel.specs.declared.place.Place.{Place}
use Rattle.ipc_kernel.specs.declared.place.Place.TheVariants.{Empty, Mq, Sem}
use Rattle.lab_told.specs.Words.{signed_text}
use Rattle.ipc_traps.specs.Services.{is_on_queues}
use Rattle.ipc_traps.specs.declared.service.Service.{Service}
use Rattle.lab_told.specs.declared.handles.Level.{Level}
use Rattle.lab_told.specs.declared.handles.Level.TheVariants.{Messages, Value}

-- the place of the object that a number of process p stands for: a descriptor's for a call on queues, else a slot's
unfoldable pub held_place : KernelState → ℕ → Service → ℕ → Option ℕ
held_place k p s number =
    if is_on_queues s then option_map (λ d. d.place) (descriptor_of k.processes p number)
    else option_map (λ slot. slot.place) (slot_of k.processes p number)

-- the name of an object, or its place once it is unlinked
abbrev pub named_text : ℕ → Option (List ℕ) → List ℕ
named_text place None = codes "#" ++ decimal place
named_text place (Some name) = name

-- the object in a place
abbrev pub object_text : ℕ → Place → List ℕ
object_text place Empty = []
object_text place (Mq name queue) = named_text place name
object_text place (Sem name value) = named_text place name

-- the object behind a number that is open
abbrev pub behind_text : KernelState → Option ℕ → List ℕ
behind_text k None = []
behind_text k (Some place) = codes "<" ++ object_text place (place_at k.places place) ++ codes ">"

-- a descriptor or a slot of process p, with its object
unfoldable pub handle_text : KernelState → ℕ → Service → ℕ → List ℕ
handle_text k p s number = signed_text number ++ behind_text k (held_place k p s number)

-- the object behind a number, where it is open, else the number
abbrev pub object_or_number : KernelState → ℕ → Option ℕ → List ℕ
object_or_number k number None = signed_text number
object_or_number k number (Some place) = object_text place (place_at k.places place)

-- the level of an object: how many messages a queue has, of how many, or the value of a semaphore
abbrev pub level_of : Place → Option Level
level_of Empty = None
level_of (Mq name queue) = Some (Messages (length queue.messages) queue.max_messages)
level_of (Sem name value) = Some (Value value)

-- the level of the object in a place
unfoldable pub level_at : KernelState → ℕ → Option Level
level_at k place = level_of (place_at k.places place)
