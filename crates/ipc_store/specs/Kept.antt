-- Kernels that are kept as their parts, each part once.
use Rattle.std.specs.Prelude.{◌≡◌, ℕ, List, Some, slice_get}
use Rattle.ipc_kernel.specs.declared.place.Place.{Place}
use Rattle.ipc_kernel.specs.declared.process.OpenTables.{OpenTables}
use Rattle.ipc_kernel.specs.Kernel.{KernelState}

-- the objects and the tables of processes that are kept, and the kernels that are made of them
pub record KeptKernels : Type 0 where
  pub objects : List Place
  pub tables : List OpenTables
  pub kernels : List KernelState

-- nothing is lost, and each keeps its number
pub record GrowsKept (t u : KeptKernels) : Type 0 where
  pub objects : (i : ℕ) (x : Place) → slice_get t.objects i ≡ Some x → slice_get u.objects i ≡ Some x
  pub tables : (i : ℕ) (x : OpenTables) → slice_get t.tables i ≡ Some x → slice_get u.tables i ≡ Some x
  pub kernels : (i : ℕ) (x : KernelState) → slice_get t.kernels i ≡ Some x → slice_get u.kernels i ≡ Some x
