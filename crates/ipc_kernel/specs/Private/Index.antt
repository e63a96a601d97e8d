-- Indexes of names.
use Rattle.std.specs.Prelude.{◌≡◌, ℕ, List, Option, Some, length}
use Rattle.std.specs.FinMap as fin
use Rattle.ipc_names.specs.Table.{NameMap}
use Rattle.ipc_kernel.specs.Limits.{object_places}
use Rattle.ipc_kernel.specs.declared.place.Place.{Place}
use Rattle.ipc_kernel.specs.declared.place.Kind.{Kind}
use Rattle.ipc_kernel.specs.declared.place.Kind.TheVariants.{Queue, Semaphore}
use Rattle.ipc_kernel.specs.Places.{place_at, queue_name, semaphore_name}

-- the table has each name at its place, and nothing else
pub record IsIndexOf (name_at : ℕ → Option (List ℕ)) (table : NameMap) : Type 0 where
  pub there : (n : List ℕ) (i : ℕ) → fin.get table n ≡ Some i → name_at i ≡ Some n
  pub named : (n : List ℕ) (i : ℕ) → name_at i ≡ Some n → fin.get table n ≡ Some i

-- the name of place i, by what names a place
abbrev pub name_at : (Place → Option (List ℕ)) → List Place → ℕ → Option (List ℕ)
name_at name_of ps i = name_of (place_at ps i)

-- what names the places of a kind of objects
abbrev pub name_by : Kind → Place → Option (List ℕ)
name_by Queue = queue_name
name_by Semaphore = semaphore_name

-- the second place has the name of the first one, of a queue or of a semaphore
pub record KeepsName (old new : Place) : Type 0 where
  pub queue : queue_name new ≡ queue_name old
  pub semaphore : semaphore_name new ≡ semaphore_name old

-- 64 places, and the indexes of their queues and semaphores
pub record IsIndexed (ps : List Place) (queues semaphores : NameMap) : Type 0 where
  pub all : length ps ≡ object_places
  pub queue_index : IsIndexOf (name_at queue_name ps) queues
  pub semaphore_index : IsIndexOf (name_at semaphore_name ps) semaphores
