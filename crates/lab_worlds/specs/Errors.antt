-- Errors with which calls are refused, and the steps whose errors are among some.
use Rattle.std.specs.Prelude.{ℕ, ◌≡◌, Some, IfSome}
use Rattle.ipc_kernel.specs.Kernel.{KernelState}
use Rattle.lc3_machine.specs.Steps.{AreSteps}
use Rattle.lab_sched.specs.declared.stepped.Stepped.{Stepped}
use Rattle.lab_sched.specs.Worlds.{Process}
use Rattle.lab_sched.specs.Held.{asked_by, local_told, step_of}
use Rattle.lab_sched.specs.LocalRun.{IsLocalStep}
use Rattle.lab_conditions.specs.Refusals.{error_told}
use Rattle.lab_worlds.specs.Calls.{IsAtCall}
use Rattle.lab_worlds.specs.declared.errors.Errors.{Errors}
use Rattle.lab_worlds.specs.declared.errors.Errors.TheVariants.{No, Only, Any}

-- the error with a number is among these
abbrev pub IsAmong : ℕ → Errors → Type 0
IsAmong n No = ⊥
IsAmong n (Only m) = n ≡ m
IsAmong n Any = Unit {0}

-- if a step of which this is told is refused, its error is among these
abbrev pub HasErrorAmong : Errors → Stepped → Type 0
HasErrorAmong es told = IfSome (error_told told) (λ n. IsAmong n es)

-- v is u after its next step, which is local, and if that is refused its error is among these
abbrev pub IsLocalStepAmong : Errors → Process → Process → Type 0
IsLocalStepAmong es u v = IsLocalStep u v × HasErrorAmong es (local_told (asked_by (Some u)))

-- v is u after n local steps, and of each that is refused the error is among these
abbrev pub AreLocalAmong : Errors → ℕ → Process → Process → Type 0
AreLocalAmong es n u v = AreSteps (IsLocalStepAmong es) n u v

-- u is process p, which is s over a kernel, after its step and n local steps, and the errors of all these are among some
pub record IsAnswered (k : KernelState) (p : ℕ) (s : Process) (n : ℕ) (es : Errors) (u : Process) : Type 0 where
  pub step : HasErrorAmong es (step_of k p s).told
  pub after : AreLocalAmong es n (step_of k p s).process u

-- the same where those are all its local steps
abbrev pub IsAnsweredToCall : KernelState → ℕ → Process → ℕ → Errors → Type 0
IsAnsweredToCall k p s n es = (u : Process) × IsAnswered k p s n es u × IsAtCall u
