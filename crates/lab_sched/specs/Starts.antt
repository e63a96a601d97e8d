-- Laboratories before their first step.
use Rattle.std.specs.Prelude.{◌≤◌, ℕ, List, All, length, map}
use Rattle.ipc_kernel.specs.Limits.{process_max}
use Rattle.lc3_table.specs.declared.profile.Profile.{Profile}
use Rattle.lc3_machine.specs.Process.{start}
use Rattle.ipc_kernel.specs.Kernel.{empty_kernel}
use Rattle.lab_sched.specs.declared.process.Program.{Program}
use Rattle.lab_sched.specs.declared.process.Process.{Process as Kept}
use Rattle.lab_sched.specs.Worlds.{HaveOneProfile, Process, Running, WorldState}
use Rattle.lab_sched.specs.Held.{process_view}
use Rattle.lab_sched.specs.Verdicts.{IsRunning}

-- a process of a profile at the start of a program
abbrev pub start_of : Profile → Program → Process
start_of profile p = Running (start profile p.image.origin p.image.words p.input.items)

-- the processes of programs at their starts, all of one profile, over the empty kernel
abbrev pub fresh : Profile → List Program → WorldState
fresh profile ps = record { processes = map (start_of profile) ps; kernel = empty_kernel (length ps) }

-- 1 to 64 programs
abbrev pub IsCount : ℕ → Type 0
IsCount n = (1 ≤ n) × (n ≤ process_max)

-- a process that runs
abbrev pub Runs : Kept → Type 0
Runs s = IsRunning (process_view s)

-- 1 to 64 processes of one profile, each of which runs
pub record AreStarts (ps : List Kept) : Type 0 where
  pub running : All Runs ps
  pub profile : HaveOneProfile (map process_view ps)
  pub some : 1 ≤ length ps
  pub few : length ps ≤ process_max

-- processes before their first step, over the empty kernel
abbrev pub initial_world : List Kept → WorldState
initial_world ps = record { processes = map process_view ps; kernel = empty_kernel (length ps) }
