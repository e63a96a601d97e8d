-- Worlds at calls: where the local steps of their processes lead them.
use Rattle.std.specs.Prelude.{ℕ, ◌≡◌, List, Option, Some, None, slice_get}
use Rattle.ipc_kernel.specs.declared.call.Call.{Call}
use Rattle.ipc_kernel.specs.Alike.{IsAlike}
use Rattle.lab_sched.specs.Worlds.{Process, Running, Waiting, Ended, WorldState, calls, next_action}
use Rattle.lab_sched.specs.LocalRun.{AreLocal}

-- the process asks for a call, or waits, or has ended
abbrev pub IsAtCall : Process → Type 0
IsAtCall (Running m) = (c : Call) × (next_action m ≡ calls c)
IsAtCall (Waiting m c) = Unit {0}
IsAtCall (Ended e) = Unit {0}

-- u is s after all its local steps
pub record IsAhead (s u : Process) : Type 0 where
  pub taken : ℕ
  pub local : AreLocal taken s u
  pub at_call : IsAtCall u

-- R holds of both, or there is neither
abbrev pub Both : {A B : Type 0} → (A → B → Type 0) → Option A → Option B → Type 0
Both R None None = Unit {0}
Both R (Some x) (Some y) = R x y
Both R None (Some y) = ⊥
Both R (Some x) None = ⊥

-- R holds at each place of two lists, which are as long
abbrev pub Alongside : {A B : Type 0} → (A → B → Type 0) → List A → List B → Type 0
Alongside R xs ys = (p : ℕ) → Both R (slice_get xs p) (slice_get ys p)

-- the same processes, over kernels that are alike
pub record AreAlike (w v : WorldState) : Type 0 where
  pub processes : v.processes ≡ w.processes
  pub kernel : IsAlike w.kernel v.kernel

-- v is w after all local steps of its processes, over a kernel that is alike
pub record IsAdvance (w v : WorldState) : Type 0 where
  pub kernel : IsAlike w.kernel v.kernel
  pub processes : Alongside IsAhead w.processes v.processes
