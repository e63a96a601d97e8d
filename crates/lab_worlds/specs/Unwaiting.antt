-- Worlds in which no process has begun to wait. The kernel doesn't see who waits, so a process that
-- waits does next what it would do if it stood before its call.
use Rattle.std.specs.Prelude.{ℕ, ◌≡◌, Some, map, slice_get}
use Rattle.ipc_kernel.specs.declared.call.Answer.TheVariants.{Done, Wait}
use Rattle.lab_sched.specs.Worlds.{Process, Running, Waiting, Ended, WorldState, calls, next_action, StepEffect, nothing, local_step, kernel_step, step_effect_in, step}
use Rattle.lab_sched.specs.Stepping.{before_wait}

-- a local step, or a call with a reply
abbrev pub GoesOn : StepEffect → Type 0
GoesOn nothing = ⊥
GoesOn (local_step n) = Unit {0}
GoesOn (kernel_step m c (Done r)) = Unit {0}
GoesOn (kernel_step m c Wait) = ⊥

-- no process goes on
abbrev pub NoneGoesOn : WorldState → Type 0
NoneGoesOn w = (p : ℕ) → GoesOn (step_effect_in w p) → ⊥

-- each process that waits stands before its call instead
abbrev pub unwaiting : WorldState → WorldState
unwaiting w = record { processes = map before_wait w.processes; kernel = w.kernel }

-- a process that waits asks for the call that it waits for
abbrev pub AsksAgain : Process → Type 0
AsksAgain (Running m) = Unit {0}
AsksAgain (Waiting m c) = next_action m ≡ calls c
AsksAgain (Ended e) = Unit {0}

-- each process that waits does
abbrev pub AskAgain : WorldState → Type 0
AskAgain w = (p : ℕ) (s : Process) → slice_get w.processes p ≡ Some s → AsksAgain s

-- a step of process p, whoever waits: where p goes on, it makes the same step if none has begun to
-- wait; where it doesn't, it wouldn't then either, and but for who waits nothing changes; and after
-- both steps the worlds are the same but for who waits
pub record IsUnaffectedByWaits (w : WorldState) (p : ℕ) : Type 0 where
  pub same : GoesOn (step_effect_in w p) → step_effect_in (unwaiting w) p ≡ step_effect_in w p
  pub none : (GoesOn (step_effect_in w p) → ⊥) → GoesOn (step_effect_in (unwaiting w) p) → ⊥
  pub still : (GoesOn (step_effect_in w p) → ⊥) → unwaiting (step w p) ≡ unwaiting w
  pub commutes : unwaiting (step w p) ≡ unwaiting (step (unwaiting w) p)
  pub asks : AskAgain (step w p)

-- each step of each world in which those that wait ask for what they wait for is such a one
abbrev pub StepsUnaffectedByWaits : Type 0
StepsUnaffectedByWaits = (w : WorldState) (p : ℕ) → AskAgain w → IsUnaffectedByWaits w p
