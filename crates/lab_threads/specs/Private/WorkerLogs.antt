-- What a worker writes down.
use Rattle.std.specs.Prelude.{ℕ, ◌+◌}
use Rattle.lab_sched.specs.Worlds.{Process}
use Rattle.lab_sched.specs.LocalRun.{IsLocalRun, steps}
use Rattle.lab_threads.specs.declared.spawning.WorkerLog.{WorkerLog}

-- wherever a process began that came to x by the trace of the one log, it came to y by that of the
-- other
abbrev pub LeadsOn : WorkerLog → Process → WorkerLog → Process → Type 0
LeadsOn l x k y = (s : Process) → IsLocalRun s l.trace x → IsLocalRun s k.trace y

-- the steps that were taken, and those that are left
abbrev pub allowance : WorkerLog → ℕ
allowance log = steps log.trace + log.left
