-- A laboratory before its first step, as it is kept.
use Rattle.std.specs.Prelude.{◌≡◌, List, length}
use Rattle.ipc_kernel.specs.Kernel.{KernelState, empty_kernel}
use Rattle.lab_sched.specs.declared.process.Process.{Process as Kept}
use Rattle.lab_sched.specs.Starts.{AreStarts}

-- the processes of a laboratory before its first step, and its kernel, which is empty
pub record IsFresh (ps : List Kept) (k : KernelState) : Type 0 where
  pub starts : AreStarts ps
  pub empty : k ≡ empty_kernel (length ps)
