-- Processes that have no effective step.
use Rattle.std.proofs.Common.{ℕ, ◌≡◌, Some, rules}
use Rattle.lc3_machine.specs.Process.{Process as Machine}
use Rattle.ipc_kernel.specs.declared.call.Call.{Call}
use Rattle.ipc_kernel.specs.declared.call.Answer.{Answer}
use Rattle.ipc_kernel.specs.declared.call.Answer.TheVariants.{Wait}
use Rattle.ipc_kernel.specs.Kernel.{KernelState}
use Rattle.lab_sched.specs.Worlds.{Process, nothing, step_effect, retry}
use Rattle.lab_sched.specs.Finished.{IsAtRest}

retry_none : (m : Machine) (c : Call) (a : Answer) → retry m c a ≡ nothing → a ≡ Wait
retry_none m c x e = search rules

pub at_rest : (k : KernelState) (p : ℕ) (s : Process) → step_effect k p (Some s) ≡ nothing → IsAtRest k p s
at_rest k p x e = search rules
