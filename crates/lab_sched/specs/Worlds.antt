-- Worlds: processes over one kernel, and what lists of steps of processes do.
use Rattle.std.specs.Prelude.{ℕ, ◌≡◌, ◌≤◌, ◌-◌, ◌++◌, List, [], ◌∷◌, Option, Some, None, unwrap_or, length, slice_get, slice_set, All}
use Rattle.lc3_table.specs.declared.profile.Profile.{Profile}
use Rattle.lc3_table.specs.declared.profile.Profile.TheVariants.{A}
use Rattle.lc3_machine.specs.Process.{Process as Machine, EndedProcess}
use Rattle.lc3_machine.specs.Reply.{process_after_end}
use Rattle.ipc_names.specs.Errno.{number_of}
use Rattle.ipc_kernel.specs.declared.call.Call.{Call}
use Rattle.ipc_kernel.specs.declared.call.Call.TheVariants.{Exit}
use Rattle.ipc_kernel.specs.declared.call.Reply.{Reply}
use Rattle.ipc_kernel.specs.declared.call.Reply.TheVariants.{Plain}
use Rattle.ipc_kernel.specs.declared.call.Answer.{Answer}
use Rattle.ipc_kernel.specs.declared.call.Answer.TheVariants.{Done, Wait}
use Rattle.ipc_kernel.specs.Kernel.{KernelState}
use Rattle.ipc_kernel.specs.Answer.{answer}
use Rattle.ipc_traps.specs.Asked.{Request, Local, Refuses, Calls, Ends, next_request}
use Rattle.ipc_traps.specs.Reply.{process_after_reply}
use Rattle.lab_sched.specs.declared.stepped.Entry.{Entry}

-- a process of a laboratory, by its status; a waiting one with the call that it waits for
pub data Process : Type 0 where
  Running : Machine → Process
  Waiting : Machine → Call → Process
  Ended : EndedProcess → Process

-- the processes, and the kernel that they share
pub record WorldState : Type 0 where
  pub processes : List Process
  pub kernel : KernelState

-- a world has no process p
abbrev pub HasNoProcess : WorldState → ℕ → Type 0
HasNoProcess w p = length w.processes ≤ p

-- the machine of a process, whatever its status
abbrev pub machine_of : Process → Machine
machine_of (Running m) = m
machine_of (Waiting m c) = m
machine_of (Ended e) = e.process

-- the profile of the machine that a process is
abbrev pub profile_of : Process → Profile
profile_of s = (machine_of s).profile

-- a process whose machine has this profile
abbrev pub HasProfile : Profile → Process → Type 0
HasProfile profile s = profile_of s ≡ profile

-- the profile of the first of some processes, and A where there is none
abbrev pub first_profile : List Process → Profile
first_profile [] = A
first_profile (s ∷ ss) = profile_of s

-- processes that all have one profile, which is that of the first
abbrev pub HaveOneProfile : List Process → Type 0
HaveOneProfile ps = All (HasProfile (first_profile ps)) ps

-- what a running process does next: a local step to this machine, or this call of the kernel
pub data NextAction : Type 0 where
  moves : Machine → NextAction
  calls : Call → NextAction

-- a refusal that the kernel doesn't see is a local step, and an end calls Exit
abbrev pub action_for : Machine → Request → NextAction
action_for m (Local n) = moves n
action_for m (Refuses e) = moves (process_after_reply m (Plain (65536 - number_of e)))
action_for m (Calls c) = calls c
action_for m (Ends how) = calls Exit

-- what a machine does next
unfoldable pub next_action : Machine → NextAction
next_action m = action_for m (next_request m)

-- what a reply makes of a process that made this request; an end is the process's end, whatever the reply
abbrev pub process_after_reply_to : Machine → Request → Reply → Process
process_after_reply_to m (Local n) r = Running (process_after_reply m r)
process_after_reply_to m (Refuses e) r = Running (process_after_reply m r)
process_after_reply_to m (Calls c) r = Running (process_after_reply m r)
process_after_reply_to m (Ends how) r = Ended (record { process = process_after_end m how; how = how })

-- the process after the answer to its call: it waits for that call, or has the reply
unfoldable pub process_after_answer : Machine → Call → Answer → Process
process_after_answer m c Wait = Waiting m c
process_after_answer m c (Done r) = process_after_reply_to m (next_request m) r

-- what a step of a process is: nothing, a local step to this machine, or this call of this machine with this answer
pub data StepEffect : Type 0 where
  nothing : StepEffect
  local_step : Machine → StepEffect
  kernel_step : Machine → Call → Answer → StepEffect

-- a call that waits is tried again
abbrev pub retry : Machine → Call → Answer → StepEffect
retry m c Wait = nothing
retry m c (Done r) = kernel_step m c (Done r)

-- what a running process does next, tried for the first time
abbrev pub first_try : KernelState → ℕ → Machine → NextAction → StepEffect
first_try k p m (moves n) = local_step n
first_try k p m (calls c) = kernel_step m c (answer k p c).0

-- the step of process p over this kernel; a process that isn't there, or has ended, does nothing
abbrev pub step_effect : KernelState → ℕ → Option Process → StepEffect
step_effect k p None = nothing
step_effect k p (Some (Running m)) = first_try k p m (next_action m)
step_effect k p (Some (Waiting m c)) = retry m c (answer k p c).0
step_effect k p (Some (Ended e)) = nothing

-- the step of process p in a world
abbrev pub step_effect_in : WorldState → ℕ → StepEffect
step_effect_in w p = step_effect w.kernel p (slice_get w.processes p)

-- the process that a step leads to, where it changes it
abbrev pub process_made : StepEffect → Option Process
process_made nothing = None
process_made (local_step n) = Some (Running n)
process_made (kernel_step m c a) = Some (process_after_answer m c a)

-- a process after its step
abbrev pub process_after : Process → StepEffect → Process
process_after s t = unwrap_or (process_made t) s

-- the kernel after a step of process p
abbrev pub kernel_after : KernelState → ℕ → StepEffect → KernelState
kernel_after k p nothing = k
kernel_after k p (local_step n) = k
kernel_after k p (kernel_step m c a) = (answer k p c).1

-- the processes with another in the place of process p, if there is another
abbrev pub processes_with : List Process → ℕ → Option Process → List Process
processes_with ps p None = ps
processes_with ps p (Some s) = slice_set ps p s

-- the world after a step of process p, by the effect of the step
abbrev pub after : WorldState → ℕ → StepEffect → WorldState
after w p t = record { processes = processes_with w.processes p (process_made t); kernel = kernel_after w.kernel p t }

-- the world after a step of process p
abbrev pub step : WorldState → ℕ → WorldState
step w p = after w p (step_effect_in w p)

-- a step is effective where the process is running, or waits and its call is answered
abbrev pub IsEffective : StepEffect → Type 0
IsEffective nothing = ⊥
IsEffective (local_step n) = Unit {0}
IsEffective (kernel_step m c a) = Unit {0}

-- the entry of an effective kernel step
abbrev pub entry_of : ℕ → StepEffect → List Entry
entry_of p nothing = []
entry_of p (local_step n) = []
entry_of p (kernel_step m c a) = record { pid = p; call = c; answer = a } ∷ []

-- the world after a list of steps
unfoldable pub run : WorldState → List ℕ → WorldState
run w [] = w
run w (p ∷ ps) = run (step w p) ps

-- the entries along a list of steps
unfoldable pub entries : WorldState → List ℕ → List Entry
entries w [] = []
entries w (p ∷ ps) = entry_of p (step_effect_in w p) ++ entries (step w p) ps
