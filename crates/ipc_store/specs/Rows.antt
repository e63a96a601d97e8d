-- Rows, which stand for kernels that are kept: the numbers of the objects of a kernel, and of the tables of its processes.
use Rattle.std.specs.Prelude.{ℕ, List, map}
use Rattle.ipc_kernel.specs.Limits.{object_places}
use Rattle.ipc_kernel.specs.declared.place.Place.{Place}
use Rattle.ipc_kernel.specs.declared.process.OpenTables.{OpenTables}
use Rattle.ipc_kernel.specs.Places.{place_at, padded}
use Rattle.ipc_kernel.specs.Processes.{process_at}
use Rattle.ipc_kernel.specs.Kernel.{KernelState}
use Rattle.ipc_store.specs.Kept.{KeptKernels}

-- the numbers of the objects of a kernel, up to its last object, and those of the tables of its processes
pub record KernelRow : Type 0 where
  pub objects : List ℕ
  pub tables : List ℕ

-- the kernel of a row, by the objects and the tables that are kept
abbrev pub kernel_of : List Place → List OpenTables → KernelRow → KernelState
kernel_of objects tables r =
    record { places = padded object_places (map (place_at objects) r.objects); processes = map (process_at tables) r.tables }

-- the kernels of rows, with their parts
abbrev pub kept_kernels : List Place → List OpenTables → List KernelRow → KeptKernels
kept_kernels objects tables rows =
    record { objects = objects; tables = tables; kernels = map (kernel_of objects tables) rows }
