-- What a call works on, by the numbers of parts that are kept.
use Rattle.std.specs.Prelude.{ℕ, ◌≡◌, Option, None, Some, slice_get}
use Rattle.ipc_kernel.specs.declared.call.Handle.{Handle}
use Rattle.ipc_kernel.specs.declared.place.Place.{Place}
use Rattle.ipc_kernel.specs.declared.process.OpenTables.{OpenTables}
use Rattle.ipc_kernel.specs.Processes.{process_at}
use Rattle.ipc_kernel.specs.Places.{place_at}
use Rattle.ipc_kernel.specs.Kernel.{KernelState}
use Rattle.ipc_kernel.specs.Operands.{place_of}
use Rattle.ipc_store.specs.Kept.{KeptKernels}

-- a descriptor or slot of process p isn't open, or its tables and the object to which it refers have these numbers
abbrev pub IsUsed : KeptKernels → KernelState → ℕ → Handle → Option (ℕ × ℕ) → Type 0
IsUsed t k p h None = place_of (process_at k.processes p) h ≡ None
IsUsed t k p h (Some n) =
    (i : ℕ) × (place_of (process_at k.processes p) h ≡ Some i) × (slice_get t.tables n.0 ≡ Some (process_at k.processes p))
    × (slice_get t.objects n.1 ≡ Some (place_at k.places i))
