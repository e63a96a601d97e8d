-- When a run is finished.
use Rattle.std.specs.Prelude.{ℕ, ◌≡◌, ◌≤◌, ◌⊎◌, List, Some, slice_get}
use Rattle.ipc_kernel.specs.declared.call.Answer.TheVariants.{Wait}
use Rattle.ipc_kernel.specs.Kernel.{KernelState}
use Rattle.ipc_kernel.specs.Answer.{answer}
use Rattle.lab_sched.specs.Worlds.{Process, Running, Waiting, Ended, WorldState}
use Rattle.lab_sched.specs.Execution.{count}

-- the process has ended, or waits and must still wait
abbrev pub IsAtRest : KernelState → ℕ → Process → Type 0
IsAtRest k p (Running m) = ⊥
IsAtRest k p (Waiting m c) = (answer k p c).0 ≡ Wait
IsAtRest k p (Ended e) = Unit {0}

-- no process took more steps than the limit, and each is at rest or took that many
abbrev pub IsFinished : WorldState → List ℕ → ℕ → Type 0
IsFinished w ps limit = (p : ℕ) (s : Process) → slice_get w.processes p ≡ Some s
    → (count p ps ≤ limit) × (IsAtRest w.kernel p s ⊎ (count p ps ≡ limit))
