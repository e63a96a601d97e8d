-- Steps of a process, and all its local steps behind them.
use Rattle.std.specs.Prelude.{ℕ, ◌≡◌, ◌<◌, ◌^◌, Some}
use Rattle.ipc_kernel.specs.Kernel.{KernelState}
use Rattle.ipc_kernel.specs.Alike.{IsAlike}
use Rattle.lab_sched.specs.declared.process.Process.{Process as Kept}
use Rattle.lab_sched.specs.Worlds.{Process, WorldState, step_effect}
use Rattle.lab_sched.specs.Held.{process_view, IsHeld, step_of}
use Rattle.lab_worlds.specs.declared.random_walker.Attempt.{Attempt}
use Rattle.lab_worlds.specs.declared.random_walker.Attempt.TheVariants.{Still, Runs, Came}
use Rattle.lab_worlds.specs.Calls.{IsAtCall, IsAhead, Alongside}
use Rattle.lab_worlds.specs.Unwaiting.{GoesOn}
use Rattle.lab_worlds.specs.Errors.{IsAnswered}

-- a state that is kept is at a call, and ready for the reply to it
abbrev pub IsReady : Kept → Type 0
IsReady s = IsHeld s × IsAtCall (process_view s)

-- u is s after all its local steps, fewer than 2^32
pub record IsReached (s u : Process) : Type 0 where
  pub ahead : IsAhead s u
  pub few : ahead.taken < 2 ^ 32

-- v is w after all local steps of its processes, fewer than 2^32 of each, over a kernel that is
-- alike
pub record AreReached (w v : WorldState) : Type 0 where
  pub kernel : IsAlike w.kernel v.kernel
  pub processes : Alongside IsReached w.processes v.processes

-- what a step of process p makes of it and of the kernel, and of it then all its local steps, as
-- they are, with the errors of those that are refused
abbrev pub IsStepped : KernelState → ℕ → Process → Attempt → Type 0
IsStepped k p s Still = GoesOn (step_effect k p (Some s)) → ⊥
IsStepped k p s Runs = GoesOn (step_effect k p (Some s))
IsStepped k p s (Came made) =
    (made.kernel ≡ (step_of k p s).kernel) × IsReady made.process
    × IsReached (step_of k p s).process (process_view made.process)
    × GoesOn (step_effect k p (Some s))
    × IsAnswered k p s made.taken made.errors (process_view made.process)
