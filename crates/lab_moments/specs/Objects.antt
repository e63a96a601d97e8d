-- Message queues, semaphores, who waits for them, and what a process has open of them.
use Rattle.std.specs.Prelude.{ℕ, ◌==◌, false, Option, Some, None, List, [], ◌∷◌, ◌++◌, length, codes, filter, slice_get, if◌then◌else◌}
use Rattle.std.specs.Option.{option_map, option_map_or, option_to_list}
use Rattle.serde_json.specs.Data.{Data, string, boolean}
use Rattle.ipc_objects.specs.Queue.{QueueState}
use Rattle.ipc_objects.specs.declared.queue.Message.{Message}
use Rattle.ipc_kernel.specs.Kernel.{KernelState}
use Rattle.ipc_kernel.specs.Limits.{open_max}
use Rattle.ipc_kernel.specs.declared.place.Place.{Place}
use Rattle.ipc_kernel.specs.declared.place.Place.TheVariants.{Empty, Mq, Sem}
use Rattle.ipc_kernel.specs.Processes.{descriptor_of, slot_of}
use Rattle.ipc_kernel.specs.declared.process.Descriptor.{Descriptor}
use Rattle.ipc_kernel.specs.declared.process.Slot.{Slot}
use Rattle.ipc_traps.specs.declared.service.Service.{Service}
use Rattle.lc3_machine.specs.Process.{Process as Machine, reg}
use Rattle.lab_sched.specs.Verdicts.{is_ended}
use Rattle.lab_sched.specs.Worlds.{Process, Running, Waiting, Ended, WorldState}
use Rattle.lab_texts.specs.Objects.{access_text}
use Rattle.lab_told.specs.Objects.{held_place}
use Rattle.lab_told.specs.Origins.{is_in}
use Rattle.lab_told.specs.Services.{service_at}
use Rattle.lab_told.specs.Tallies.{TallyState}
use Rattle.lab_told.specs.Units.{units_of, balance}
use Rattle.lab_told.specs.declared.origins.Origin.{Origin}
use Rattle.lab_moments.specs.Values.{list, natural, naturals, or_null, all_below}

-- the name of an object, none once it is unlinked
abbrev pub name_data : Option (List ℕ) → Data
name_data name = or_null (option_map string name)

-- the call that a process p stands before, and the place of its object
abbrev pub awaited_in : KernelState → ℕ → Machine → Option Service → Option (Service × ℕ)
awaited_in k p m None = None
awaited_in k p m (Some s) = option_map (λ place. (s, place)) (held_place k p s (reg m 0))

-- the call in which process p waits, and the place of its object
abbrev pub awaited : KernelState → ℕ → Option Process → Option (Service × ℕ)
awaited k p None = None
awaited k p (Some (Running m)) = None
awaited k p (Some (Waiting m c)) = awaited_in k p m (service_at m)
awaited k p (Some (Ended e)) = None

-- that of process p of a world
abbrev pub awaited_at : WorldState → ℕ → Option (Service × ℕ)
awaited_at w p = awaited w.kernel p (slice_get w.processes p)

-- process p, where it waits for the object in a place
abbrev pub waiter : ℕ → ℕ → Option (Service × ℕ) → List Data
waiter place p None = []
waiter place p (Some call) = if call.1 == place then natural p ∷ [] else []

-- the processes that wait for the object in a place
abbrev pub waiters : WorldState → ℕ → List Data
waiters w place = all_below (length w.processes) (λ p. waiter place p (awaited_at w p))

-- a process that took so many units of a semaphore more than it gave, and whether it has ended
abbrev pub taker : ℕ → ℕ → Option Process → List Data
taker p n s = if n == 0 then [] else list (natural p ∷ natural n ∷ boolean (option_map_or is_ended s false) ∷ []) ∷ []

-- process p, where it took more units of the semaphore in a place than it gave
abbrev pub taker_at : WorldState → TallyState → ℕ → ℕ → List Data
taker_at w t place p = taker p (balance (units_of place p t.units)) (slice_get w.processes p)

-- the processes that took more units of the semaphore in a place than they gave, each with how many more
abbrev pub takers : WorldState → TallyState → ℕ → List Data
takers w t place = all_below (length w.processes) (taker_at w t place)

-- the semaphore in a place, which was made with some value: its name, who waits for it, its value, that which it was made with,
-- and who has taken units of it
unfoldable pub semaphore_data : WorldState → TallyState → ℕ → ℕ → Option (List ℕ) × ℕ → Data
semaphore_data w t made place held =
    list (string (codes "sem") ∷ natural place ∷ name_data held.0 ∷ list (waiters w place) ∷ natural held.1 ∷ natural made
    ∷ list (takers w t place) ∷ [])

-- the process and the step that sent a message
abbrev pub origin_data : Origin → Data
origin_data o = list (natural o.pid ∷ natural o.step ∷ [])

-- a message: its priority, its words, and where it comes from
unfoldable pub message_data : Message → Option Origin → Data
message_data m origin =
    list (natural m.priority ∷ naturals m.words ∷ or_null (option_map origin_data origin) ∷ [])

-- where the messages in the queue in a place come from, in the order of receive
abbrev pub origins_in : TallyState → ℕ → List Origin
origins_in t place = filter (is_in place) t.origins

-- message number i of a queue, where it is there
abbrev pub message_at : List Origin → QueueState → ℕ → List Data
message_at os q i = option_to_list (option_map (λ m. message_data m (slice_get os i)) (slice_get q.messages i))

-- the messages of a queue in the order of receive
abbrev pub messages : List Origin → QueueState → List Data
messages os q = all_below (length q.messages) (message_at os q)

-- the queue in a place: its name, who waits for it, mq_maxmsg, mq_msgsize, and its messages
unfoldable pub queue_data : WorldState → TallyState → ℕ → Option (List ℕ) × QueueState → Data
queue_data w t place held =
    list (string (codes "mq") ∷ natural place ∷ name_data held.0 ∷ list (waiters w place) ∷ natural held.1.max_messages
    ∷ natural held.1.message_size ∷ list (messages (origins_in t place) held.1) ∷ [])

-- that the object in a place is gone
abbrev pub gone_data : ℕ → Data
gone_data place = list (string (codes "gone") ∷ natural place ∷ [])

-- the object in a place, which was made with some level; else that it is gone
abbrev pub object_data : WorldState → TallyState → ℕ → ℕ → Place → Data
object_data w t made place Empty = gone_data place
object_data w t made place (Mq name queue) = queue_data w t place (name, queue)
object_data w t made place (Sem name value) = semaphore_data w t made place (name, value)

-- an open descriptor: the place of its queue, for what it is open, and whether a call that would wait is refused
abbrev pub descriptor_data : ℕ → Descriptor → Data
descriptor_data number d =
    list (string (codes "mq") ∷ natural number ∷ natural d.place ∷ string (access_text d.access) ∷ boolean d.nonblock ∷ [])

-- an open slot: the place of its semaphore, and how often it was opened
abbrev pub slot_data : ℕ → Slot → Data
slot_data number s = list (string (codes "sem") ∷ natural number ∷ natural s.place ∷ natural s.opens ∷ [])

-- descriptor d of process p, where it is open
abbrev pub descriptor_at : WorldState → ℕ → ℕ → List Data
descriptor_at w p d = option_to_list (option_map (descriptor_data d) (descriptor_of w.kernel.processes p d))

-- slot s of process p, where it is open
abbrev pub slot_at : WorldState → ℕ → ℕ → List Data
slot_at w p s = option_to_list (option_map (slot_data s) (slot_of w.kernel.processes p s))

-- what process p has open: descriptors, then slots
unfoldable pub open_data : WorldState → ℕ → Data
open_data w p = list (all_below open_max (descriptor_at w p) ++ all_below open_max (slot_at w p))
