-- What every book keeps.
use Rattle.std.specs.Prelude.{ℕ, ◌≡◌, ◌<◌, List, Option, Some, slice_get, length}
use Rattle.ipc_kernel.specs.Kernel.{KernelState, empty_kernel}
use Rattle.ipc_kernel.specs.declared.call.Call.{Call}
use Rattle.lab_sched.specs.declared.stepped.Entry.{Entry}
use Rattle.lab_sched.specs.History.{IsLegal, replay, waits}

-- The history is legal, the kernel is its replay, and beside each process stands the call that it
-- waits for. There are as many processes as the kernel knows.
pub record BookInvariant
    (k : KernelState) (history : List Entry) (waiting : List (Option Call)) : Type 0 where
  pub legal : IsLegal (empty_kernel (length waiting)) history
  pub kernel : k ≡ replay (empty_kernel (length waiting)) history
  pub calls : (p : ℕ) → p < length waiting → slice_get waiting p ≡ Some (waits history p)
  pub count : length k.processes ≡ length waiting
