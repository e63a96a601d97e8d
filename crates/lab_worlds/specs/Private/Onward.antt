-- What a process does by itself, step by step.
use Rattle.std.specs.Prelude.{ℕ, ◌≡◌, ◌≤◌, Option, Some, None}
use Rattle.lab_sched.specs.Worlds.{Process}
use Rattle.lab_sched.specs.Held.{asked_by, local_told}
use Rattle.lab_sched.specs.LocalRun.{IsLocalStep, AreLocal}
use Rattle.lab_conditions.specs.Refusals.{error_told}
use Rattle.lab_worlds.specs.Calls.{IsAtCall}
use Rattle.lab_worlds.specs.Errors.{AreLocalAmong}
use Rattle.lab_worlds.specs.declared.errors.Errors.{Errors}
use Rattle.lab_worlds.specs.declared.ahead.Onward.{Onward}
use Rattle.lab_worlds.specs.declared.ahead.Onward.TheVariants.{Moved, Refused, AtCall}

-- the call of the process is refused with the error of this number, before the kernel is asked
abbrev pub IsRefusedWith : ℕ → Process → Type 0
IsRefusedWith n s = error_told (local_told (asked_by (Some s))) ≡ Some n

-- a process that has no step of its own: its call is refused so, or it is at a call
abbrev pub IsStopped : Process → Option ℕ → Type 0
IsStopped s None = IsAtCall s
IsStopped s (Some n) = IsRefusedWith n s

-- what process s does by itself, which is u then: steps of its own, none of which is refused; one that is; or none
abbrev pub IsOnward : Process → ℕ → Onward → Process → Type 0
IsOnward s most (Moved n) u = (1 ≤ n) × (n ≤ most) × AreLocal n s u × ((es : Errors) → AreLocalAmong es n s u)
IsOnward s most (Refused n) u = IsLocalStep s u × IsRefusedWith n s
IsOnward s most AtCall u = (u ≡ s) × IsAtCall s
