-- What the rows of a search show of each process by itself.
use Rattle.std.specs.Prelude.{ℕ, ◌≡◌, List, Some, slice_get}
use Rattle.lc3_machine.specs.Process.{Process as Machine}
use Rattle.ipc_kernel.specs.declared.call.Call.{Call}
use Rattle.ipc_kernel.specs.declared.call.Reply.{Reply}
use Rattle.ipc_kernel.specs.declared.call.Answer.TheVariants.{Done}
use Rattle.lab_sched.specs.Worlds.{Process, WorldState, StepEffect, kernel_step, step_effect_in, run}
use Rattle.lab_sched.specs.Stepping.{before_wait}
use Rattle.lab_worlds.specs.Calls.{IsAtCall}
use Rattle.lab_search.specs.declared.store.Store.{Store}
use Rattle.lab_search.specs.Stored.{IsAt}

-- process p is so in the world of a row
abbrev pub IsInRow : Store → ℕ → Process → Type 0
IsInRow t p s = (i : ℕ) × (v : WorldState) × IsAt t i v × (slice_get v.processes p ≡ Some s)

-- process p makes this step from the world of a row
abbrev pub IsMadeInRow : Store → ℕ → StepEffect → Type 0
IsMadeInRow t p e = (i : ℕ) × (v : WorldState) × IsAt t i v × (step_effect_in v p ≡ e)

-- whatever steps are taken from the start, effective or not: if a process is at a call after them, waits or has ended, it is so,
-- before it waits, in the world of a row; and if its call is answered then, it makes this call, with this answer, from the world of
-- a row
pub record ShowsProcesses (start : WorldState) (t : Store) : Type 0 where
  pub states : (ps : List ℕ) (p : ℕ) (s : Process) → slice_get (run start ps).processes p ≡ Some s → IsAtCall s → IsInRow t p (before_wait s)
  pub calls : (ps : List ℕ) (p : ℕ) (m : Machine) (c : Call) (r : Reply) → step_effect_in (run start ps) p ≡ kernel_step m c (Done r)
      → IsMadeInRow t p (kernel_step m c (Done r))
