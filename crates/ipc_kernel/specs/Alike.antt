-- Kernels that are alike: equal but for the numbers of their object places, which no reply shows.
use Rattle.std.specs.Prelude.{◌≡◌, ◌↔◌, ℕ, ◌<◌, false, List, Option, Some, length, map}
use Rattle.std.specs.Option.{option_map}
use Rattle.ipc_kernel.specs.Limits.{object_places}
use Rattle.ipc_kernel.specs.declared.place.Place.{Place}
use Rattle.ipc_kernel.specs.declared.place.Place.TheVariants.{Empty}
use Rattle.ipc_kernel.specs.declared.process.OpenTables.{OpenTables}
use Rattle.ipc_kernel.specs.declared.process.Slot.{Slot}
use Rattle.ipc_kernel.specs.declared.process.Descriptor.{Descriptor}
use Rattle.ipc_kernel.specs.declared.call.Call.{Call}
use Rattle.ipc_kernel.specs.Processes.{is_referred}
use Rattle.ipc_kernel.specs.Places.{place_at, queue_name, semaphore_name}
use Rattle.ipc_kernel.specs.Kernel.{KernelState, empty_kernel}
use Rattle.ipc_kernel.specs.Answer.{answer}

-- a descriptor of the queue whose place is renamed
abbrev pub renamed_descriptor : (ℕ → ℕ) → Descriptor → Descriptor
renamed_descriptor f d = record d { place = f d.place }

-- a slot of the semaphore whose place is renamed
abbrev pub renamed_slot : (ℕ → ℕ) → Slot → Slot
renamed_slot f s = record s { place = f s.place }

-- the tables of a process, with each place renamed
abbrev pub renamed_process : (ℕ → ℕ) → OpenTables → OpenTables
renamed_process f p =
    record { descriptors = map (option_map (renamed_descriptor f)) p.descriptors; slots = map (option_map (renamed_slot f)) p.slots }

-- f and g undo each other, and rename the object places among themselves
pub record IsPermutation (f g : ℕ → ℕ) : Type 0 where
  pub undone : (i : ℕ) → g (f i) ≡ i
  pub redone : (i : ℕ) → f (g i) ≡ i
  pub within : (i : ℕ) → (f i < object_places) ↔ (i < object_places)

-- the second kernel is the first one with place i renamed to f i
pub record IsRenaming (f g : ℕ → ℕ) (k j : KernelState) : Type 0 where
  pub permutation : IsPermutation f g
  pub count : length j.places ≡ length k.places
  pub places : (i : ℕ) → place_at j.places (f i) ≡ place_at k.places i
  pub processes : j.processes ≡ map (renamed_process f) k.processes

-- the one kernel is the other with its places renamed
abbrev pub IsAlike : KernelState → KernelState → Type 0
IsAlike k j = (f : ℕ → ℕ) × (g : ℕ → ℕ) × IsRenaming f g k j

-- no two places have one name
abbrev pub AreDistinct : (Place → Option (List ℕ)) → List Place → Type 0
AreDistinct name_of ps = (i j : ℕ) (n : List ℕ) → name_of (place_at ps i) ≡ Some n → name_of (place_at ps j) ≡ Some n → i ≡ j

-- no descriptor or slot refers to an empty place, and a name stands for one queue, and for one semaphore
pub record IsConsistent (k : KernelState) : Type 0 where
  pub count : length k.places ≡ object_places
  pub referred : (i : ℕ) → place_at k.places i ≡ Empty → is_referred k.processes i ≡ false
  pub queues : AreDistinct queue_name k.places
  pub semaphores : AreDistinct semaphore_name k.places

-- kernels that are alike answer each call alike, and are alike after it
abbrev pub AnswersAlike : Type 0
AnswersAlike = (k j : KernelState) (p : ℕ) (c : Call) → IsConsistent k → IsAlike k j
    → ((answer k p c).0 ≡ (answer j p c).0) × IsAlike (answer k p c).1 (answer j p c).1

-- the kernel of so many processes is consistent before their first call
abbrev pub StartsConsistent : Type 0
StartsConsistent = (n : ℕ) → IsConsistent (empty_kernel n)

-- a kernel that is consistent is so after each call
abbrev pub StaysConsistent : Type 0
StaysConsistent = (k : KernelState) (p : ℕ) (c : Call) → IsConsistent k → IsConsistent (answer k p c).1
