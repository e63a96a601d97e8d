-- What a kernel is seen as.
use Rattle.std.specs.Prelude.{◌≡◌, ℕ, List, replicate}
use Rattle.ipc_kernel.specs.Limits.{object_places}
use Rattle.ipc_kernel.specs.declared.place.Place.TheVariants.{Empty}
use Rattle.ipc_kernel.specs.Processes.{closed_process}
use Rattle.ipc_kernel.specs.declared.place.Place.{Place}
use Rattle.ipc_kernel.specs.declared.process.OpenTables.{OpenTables}
use Rattle.ipc_kernel.specs.Places.{places_or_empty}

-- the object places, and the descriptors and slots of each process
pub record KernelState : Type 0 where
  pub places : List Place
  pub processes : List OpenTables

-- the kernel of n processes in which nothing is made and nothing is open
abbrev pub empty_kernel : ℕ → KernelState
empty_kernel n = record { places = replicate object_places Empty; processes = replicate n closed_process }

-- each place without a name that nothing refers to is empty
abbrev pub IsSettled : KernelState → Type 0
IsSettled k = places_or_empty k.processes k.places ≡ k.places
