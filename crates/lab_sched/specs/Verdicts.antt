-- How a world stands.
use Rattle.std.specs.Prelude.{◌≡◌, ℕ, List, codes, Bool, true, false, not, ◌&&◌, if◌then◌else◌, Some, length, slice_get}
use Rattle.std.specs.List.{list_all, list_any, range_with_len}
use Rattle.lab_sched.specs.Worlds.{Process, Running, Waiting, Ended, StepEffect, nothing, local_step, kernel_step, WorldState, step_effect_in, IsEffective}
use Rattle.lab_sched.specs.declared.verdict.Verdict.{Verdict}
use Rattle.lab_sched.specs.declared.verdict.Verdict.TheVariants as verdict

-- a process that runs
abbrev pub IsRunning : Process → Type 0
IsRunning (Running m) = Unit {0}
IsRunning (Waiting m c) = ⊥
IsRunning (Ended e) = ⊥

-- a process that waits
abbrev pub IsWaiting : Process → Type 0
IsWaiting (Running m) = ⊥
IsWaiting (Waiting m c) = Unit {0}
IsWaiting (Ended e) = ⊥

-- a process that has ended
abbrev pub HasEnded : Process → Type 0
HasEnded (Running m) = ⊥
HasEnded (Waiting m c) = ⊥
HasEnded (Ended e) = Unit {0}

-- process p has ended, if it is there
abbrev pub HasEndedIn : WorldState → ℕ → Type 0
HasEndedIn w p = (s : Process) → slice_get w.processes p ≡ Some s → HasEnded s

-- process p hasn't ended, if it is there
abbrev pub HasNotEndedIn : WorldState → ℕ → Type 0
HasNotEndedIn w p = (s : Process) → slice_get w.processes p ≡ Some s → HasEnded s → ⊥

-- all processes have ended
abbrev pub HaveEnded : WorldState → Type 0
HaveEnded w = (p : ℕ) → HasEndedIn w p

-- some process waits, none is running, and no step is effective
pub record AreStuck (w : WorldState) : Type 0 where
  pub waits : (p : ℕ) × (s : Process) × (slice_get w.processes p ≡ Some s) × IsWaiting s
  pub none_runs : (p : ℕ) (s : Process) → slice_get w.processes p ≡ Some s → IsRunning s → ⊥
  pub none_moves : (p : ℕ) → IsEffective (step_effect_in w p) → ⊥

-- the word of each verdict
abbrev pub verdict_word : Verdict → List ℕ
verdict_word verdict.Ended = codes "ended"
verdict_word verdict.Stuck = codes "stuck"
verdict_word verdict.Open = codes "open"

-- what holds of a world with each verdict
abbrev pub IsVerdict : WorldState → Verdict → Type 0
IsVerdict w verdict.Ended = HaveEnded w
IsVerdict w verdict.Stuck = AreStuck w
IsVerdict w verdict.Open = (HaveEnded w → ⊥) × (AreStuck w → ⊥)

-- whether a process runs
abbrev pub is_running : Process → Bool
is_running (Running m) = true
is_running (Waiting m c) = false
is_running (Ended e) = false

-- whether a process waits
abbrev pub is_waiting : Process → Bool
is_waiting (Running m) = false
is_waiting (Waiting m c) = true
is_waiting (Ended e) = false

-- whether a process has ended
abbrev pub is_ended : Process → Bool
is_ended (Running m) = false
is_ended (Waiting m c) = false
is_ended (Ended e) = true

-- whether a step does nothing
abbrev pub is_nothing : StepEffect → Bool
is_nothing nothing = true
is_nothing (local_step n) = false
is_nothing (kernel_step m c a) = false

-- whether each process has ended
abbrev pub all_ended : WorldState → Bool
all_ended w = list_all is_ended w.processes

-- whether no process has an effective step
abbrev pub none_moves : WorldState → Bool
none_moves w = list_all (λ p. is_nothing (step_effect_in w p)) (range_with_len 0 (length w.processes))

-- whether some process waits, none is running, and no step is effective
abbrev pub are_stuck : WorldState → Bool
are_stuck w = list_any is_waiting w.processes && (not (list_any is_running w.processes) && none_moves w)

-- the verdict of a world, worked out
unfoldable pub verdict_of : WorldState → Verdict
verdict_of w = if all_ended w then verdict.Ended else if are_stuck w then verdict.Stuck else verdict.Open

-- what is worked out is the verdict
abbrev pub VerdictWorkedOut : Type 0
VerdictWorkedOut = (w : WorldState) → IsVerdict w (verdict_of w)
