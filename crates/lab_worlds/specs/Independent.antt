-- Steps that don't depend on those of other processes, as long as each keeps to what it is said to do with objects.
use Rattle.std.specs.Prelude.{ℕ, ◌≡◌, Bool, true, List, Some, slice_get}
use Rattle.ipc_kernel.specs.declared.call.Call.{Call}
use Rattle.ipc_kernel.specs.declared.call.Answer.TheVariants.{Done, Wait}
use Rattle.ipc_kernel.specs.Kernel.{KernelState}
use Rattle.ipc_kernel.specs.OwnCalls.{is_unlink}
use Rattle.ipc_store.specs.declared.uses.ProcessUse.{ProcessUse}
use Rattle.ipc_store.specs.Uses.{is_among, is_own_by, IsWithin, are_low}
use Rattle.lab_sched.specs.Worlds.{Process, WorldState, StepEffect, nothing, local_step, kernel_step}
use Rattle.lab_sched.specs.Verdicts.{HasEndedIn}
use Rattle.lab_conditions.specs.Conditions.{call_of, option_any}

-- a local step of process p, or a call that no other process can notice
abbrev pub IsIndependent : List ProcessUse → KernelState → ℕ → StepEffect → Type 0
IsIndependent uses k p nothing = ⊥
IsIndependent uses k p (local_step n) = Unit {0}
IsIndependent uses k p (kernel_step m c (Done r)) = is_own_by uses k p c ≡ true
IsIndependent uses k p (kernel_step m c Wait) = ⊥

-- whether a process is about to take a name away
abbrev pub unlinks : Process → Bool
unlinks s = option_any is_unlink (call_of s)

-- process p of a world isn't about to take a name away, nor to do with an object what isn't among the uses
abbrev pub KeepsTo : List ProcessUse → WorldState → ℕ → Type 0
KeepsTo uses w p = (s : Process) (c : Call) → slice_get w.processes p ≡ Some s → call_of s ≡ Some c → IsWithin uses w.kernel p c

-- no process is, and no semaphore is near its greatest value
pub record IsCalm (uses : List ProcessUse) (w : WorldState) : Type 0 where
  pub keep : (p : ℕ) → KeepsTo uses w p
  pub low : are_low w.kernel.places ≡ true

-- some processes of a world have ended
abbrev pub HaveEnded : WorldState → List ℕ → Type 0
HaveEnded w ps = (p : ℕ) → is_among ps p ≡ true → HasEndedIn w p
