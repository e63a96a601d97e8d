-- The names of queues and of semaphores.
use Rattle.std.specs.Prelude.{ℕ, List, Option}
use Rattle.ipc_kernel.specs.declared.place.Place.{Place}
use Rattle.ipc_kernel.specs.Places.{queue_name, semaphore_name}
use Rattle.ipc_store.specs.declared.kept.objects.Kind.{Kind}
use Rattle.ipc_store.specs.declared.kept.objects.Kind.TheVariants.{Queue, Semaphore}

-- the name of an object of a kind
abbrev pub name_of : Kind → Place → Option (List ℕ)
name_of Queue = queue_name
name_of Semaphore = semaphore_name
