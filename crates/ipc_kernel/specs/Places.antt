-- The object places: queues and semaphores, each with a name or, once it is unlinked, without. A name in brackets is the page
-- of POSIX.1-2017.
use Rattle.std.specs.Prelude.{ℕ, ◌-◌, nat_le, Bool, true, false, ◌||◌, ◌&&◌, List, ◌++◌, length, replicate, Option, Some, None, is_some, unwrap_or, slice_get, slice_set, map, position, if◌then◌else◌}
use Rattle.std.specs.List.{enumerate_from}
use Rattle.std.specs.Str.{bytes_eq}
use Rattle.ipc_objects.specs.Queue.{QueueState}
use Rattle.ipc_objects.specs.Limits.{mq_maxmsg_max, mq_msgsize_max}
use Rattle.ipc_kernel.specs.declared.place.Place.{Place}
use Rattle.ipc_kernel.specs.declared.place.Place.TheVariants.{Empty, Mq, Sem}
use Rattle.ipc_kernel.specs.declared.process.OpenTables.{OpenTables}
use Rattle.ipc_kernel.specs.Processes.{is_referred}

-- what place i holds
abbrev pub place_at : List Place → ℕ → Place
place_at ps i = unwrap_or (slice_get ps i) Empty

-- whether a place is empty
abbrev pub is_empty : Place → Bool
is_empty Empty = true
is_empty (Mq _ _) = false
is_empty (Sem _ _) = false

-- whether the object in a place has a name
abbrev pub has_name : Place → Bool
has_name Empty = false
has_name (Mq name _) = is_some name
has_name (Sem name _) = is_some name

-- a place without a name and without a descriptor or slot that refers to it is emptied [mq_unlink, mq_close, sem_unlink, sem_close]
abbrev pub place_or_empty : List OpenTables → ℕ → Place → Place
place_or_empty processes i p = if has_name p || is_referred processes i then p else Empty

-- each such place is emptied
abbrev pub places_or_empty : List OpenTables → List Place → List Place
places_or_empty processes ps = map (λ e. place_or_empty processes e.0 e.1) (enumerate_from 0 ps)

-- the queue in a place, with its name or none
abbrev pub queue_and_name : Place → Option (Option (List ℕ) × QueueState)
queue_and_name Empty = None
queue_and_name (Mq name queue) = Some (name, queue)
queue_and_name (Sem _ _) = None

-- the value of the semaphore in a place, with its name or none
abbrev pub value_and_name : Place → Option (Option (List ℕ) × ℕ)
value_and_name Empty = None
value_and_name (Mq _ _) = None
value_and_name (Sem name value) = Some (name, value)

-- the queue in a place
abbrev pub queue_in : Place → Option QueueState
queue_in Empty = None
queue_in (Mq _ queue) = Some queue
queue_in (Sem _ _) = None

-- the value of the semaphore in a place
abbrev pub semaphore_value : Place → Option ℕ
semaphore_value Empty = None
semaphore_value (Mq _ _) = None
semaphore_value (Sem _ value) = Some value

-- the place with another state of its queue
abbrev pub with_queue : QueueState → Place → Place
with_queue q Empty = Empty
with_queue q (Mq name _) = Mq name q
with_queue q (Sem name value) = Sem name value

-- the place with another value of its semaphore
abbrev pub with_value : ℕ → Place → Place
with_value v Empty = Empty
with_value v (Mq name queue) = Mq name queue
with_value v (Sem name _) = Sem name v

-- the place whose object has lost its name
abbrev pub without_name : Place → Place
without_name Empty = Empty
without_name (Mq _ queue) = Mq None queue
without_name (Sem _ value) = Sem None value

-- the places with another state of the queue in one of them
abbrev pub with_queue_in : List Place → ℕ → QueueState → List Place
with_queue_in ps i q = slice_set ps i (with_queue q (place_at ps i))

-- the places with another value of the semaphore in one of them
abbrev pub with_value_in : List Place → ℕ → ℕ → List Place
with_value_in ps i v = slice_set ps i (with_value v (place_at ps i))

-- the places where the object in one of them has lost its name
abbrev pub without_name_in : List Place → ℕ → List Place
without_name_in ps i = slice_set ps i (without_name (place_at ps i))

-- the name of the queue in a place
abbrev pub queue_name : Place → Option (List ℕ)
queue_name Empty = None
queue_name (Mq name _) = name
queue_name (Sem _ _) = None

-- the name of the semaphore in a place
abbrev pub semaphore_name : Place → Option (List ℕ)
semaphore_name Empty = None
semaphore_name (Mq _ _) = None
semaphore_name (Sem name _) = name

-- whether a name is this one
abbrev pub is_name : List ℕ → Option (List ℕ) → Bool
is_name n None = false
is_name n (Some m) = bytes_eq n m

-- the place with a name: queues and semaphores have separate name spaces, each by what names its places
abbrev pub place_named : (Place → Option (List ℕ)) → List Place → List ℕ → Option ℕ
place_named name_of ps n = position (λ p. is_name n (name_of p)) ps

-- the place of the queue with a name
abbrev pub queue_named : List Place → List ℕ → Option ℕ
queue_named ps n = place_named queue_name ps n

-- the place of the semaphore with a name
abbrev pub semaphore_named : List Place → List ℕ → Option ℕ
semaphore_named ps n = place_named semaphore_name ps n

-- whether mq_maxmsg and mq_msgsize are in their ranges
abbrev pub are_sizes : ℕ × ℕ → Bool
are_sizes sizes = nat_le 1 sizes.0 && nat_le sizes.0 mq_maxmsg_max && nat_le 1 sizes.1 && nat_le sizes.1 mq_msgsize_max

-- places with empty ones behind them, so many in all
unfoldable pub padded : ℕ → List Place → List Place
padded n ps = ps ++ replicate (n - length ps) Empty
