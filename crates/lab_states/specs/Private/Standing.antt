-- States of processes with the calls at which they stand.
use Rattle.std.specs.Prelude.{◌≡◌, List, Option}
use Rattle.ipc_kernel.specs.declared.call.Call.{Call}
use Rattle.lab_sched.specs.Held.{process_view}
use Rattle.lab_conditions.specs.Conditions.{call_of}
use Rattle.lab_worlds.specs.Calls.{Alongside}
use Rattle.lab_states.specs.declared.collapsed_states.CollapsedState.{CollapsedState}

-- the call is that at which the process stands, and none where it stands at none
abbrev pub IsStanding : CollapsedState → Option Call → Type 0
IsStanding s c = call_of (process_view s.process) ≡ c

-- the same of each process, and the call beside it
abbrev pub AreStanding : List CollapsedState → List (Option Call) → Type 0
AreStanding ss cs = Alongside IsStanding ss cs
