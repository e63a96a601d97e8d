-- Commands whose numbers are in their ranges.
use Rattle.std.specs.Prelude.{◌+◌, ◌≤◌, ◌<◌, ⊤}
use Rattle.ipc_kernel.specs.Limits.{process_max}
use Rattle.lab_debug.specs.declared.command.Command.{Command}
use Rattle.lab_debug.specs.declared.command.Command.TheVariants.{Step, Mem, Dis, Code}
use Rattle.lab_debug.specs.Commands.{step_count_max}

-- a number of steps is 1 to 1,000,000, and a range is in memory
abbrev pub IsCommand : Command → Type 0
IsCommand (Step pid n) = (pid < process_max) × (1 ≤ n) × (n ≤ step_count_max)
IsCommand (Mem range) = range.address + range.count ≤ 65536
IsCommand (Dis range) = range.address + range.count ≤ 65536
IsCommand (Code range) = range.address + range.count ≤ 65536
IsCommand command = ⊤
