-- The processes that a world holds, as the definitions see them.
use Rattle.std.specs.Prelude.{◌≡◌, ◌≤◌, ℕ, List, Option, Some, option_map, length, slice_get, map, All}
use Rattle.ipc_kernel.specs.Limits.{process_max}
use Rattle.ipc_kernel.specs.Kernel.{KernelState}
use Rattle.ipc_kernel.specs.declared.call.Answer.TheVariants.{Done, Wait}
use Rattle.ipc_traps.specs.Asked.{Request, Refuses, Calls, next_request}
use Rattle.ipc_traps.specs.Reply.{IsPrepared}
use Rattle.lab_sched.specs.declared.process.Process.{Process as Kept}
use Rattle.lab_sched.specs.declared.process.Process.TheVariants as kept
use Rattle.lab_sched.specs.declared.stepped.Stepped.{Stepped}
use Rattle.lab_sched.specs.declared.stepped.Stepped.TheVariants as stepped
use Rattle.lab_sched.specs.Worlds.{HaveOneProfile, Process, Running, Waiting, Ended, machine_of, WorldState, StepEffect, nothing, local_step, kernel_step, step_effect, step_effect_in, process_after, kernel_after}

-- a process without the pages of memory that are ready
abbrev pub process_view : Kept → Process
process_view (kept.Running h) = Running h.process
process_view (kept.Waiting h c) = Waiting h.process c
process_view (kept.Ended e) = Ended e

-- a process that waits asks for the call that it waits for, and all that a reply writes is ready
abbrev pub IsHeld : Kept → Type 0
IsHeld (kept.Running h) = Unit {0}
IsHeld (kept.Waiting h c) = (next_request h.process ≡ Calls c) × IsPrepared h
IsHeld (kept.Ended e) = Unit {0}

-- 1 to 64 processes of one profile, as many as the kernel knows
pub record IsWorld (ps : List Kept) (k : KernelState) : Type 0 where
  pub held : All IsHeld ps
  pub profile : HaveOneProfile (map process_view ps)
  pub some : 1 ≤ length ps
  pub few : length ps ≤ process_max
  pub count : length ps ≡ length k.processes

-- what a process that is there asks for next
abbrev pub asked_by : Option Process → Option Request
asked_by = option_map (λ s. next_request (machine_of s))

-- what is told of a local step, by what was asked: a refusal without the kernel, or no call
abbrev pub local_told : Option Request → Stepped
local_told (Some (Refuses e)) = stepped.Refused e
local_told other = stepped.Moved

-- what is told of a step, by what was asked and by its effect: of a call that was answered the reply
abbrev pub stepped_of : Option Request → StepEffect → Stepped
stepped_of request nothing = stepped.Same
stepped_of request (local_step n) = local_told request
stepped_of request (kernel_step m c (Done r)) = stepped.Called r
stepped_of request (kernel_step m c Wait) = stepped.Waits

-- what is told of the step of process p in a world
abbrev pub told_in : WorldState → ℕ → Stepped
told_in w p = stepped_of (asked_by (slice_get w.processes p)) (step_effect_in w p)

-- a process and the kernel after a step, and what the step was
pub record StepResult : Type 0 where
  pub process : Process
  pub kernel : KernelState
  pub told : Stepped

-- the same of process p, which was s before its step
abbrev pub step_result : KernelState → ℕ → Process → StepEffect → StepResult
step_result k p s t = record { process = process_after s t; kernel = kernel_after k p t; told = stepped_of (asked_by (Some s)) t }

-- the step of process p, where it is s
abbrev pub step_of : KernelState → ℕ → Process → StepResult
step_of k p s = step_result k p s (step_effect k p (Some s))

-- process p, which was s over kernel k, has taken its step: it is u over kernel j, and was told what the step was
abbrev pub HasStepped : KernelState → ℕ → Process → KernelState → Process → Stepped → Type 0
HasStepped k p s j u told = record { process = u; kernel = j; told = told } ≡ step_of k p s
