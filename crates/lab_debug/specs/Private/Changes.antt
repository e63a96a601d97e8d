-- Commands that change the session or end it.
use Rattle.std.specs.Prelude.{Bool, true, false}
use Rattle.lab_debug.specs.declared.command.Command.{Command}
use Rattle.lab_debug.specs.declared.command.Command.TheVariants.{Step, Run, Play, Until, Go, Set, Unset, Back, Quit}

-- whether a command changes the session or ends it, where its processes are there
abbrev pub changes : Command → Bool
changes (Step pid n) = true
changes (Run schedule) = true
changes (Play schedule) = true
changes (Until pid address n) = true
changes (Go pid n) = true
changes (Set mark) = true
changes (Unset mark) = true
changes (Back n) = true
changes Quit = true
changes command = false
