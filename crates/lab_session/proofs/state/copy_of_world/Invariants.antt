use Rattle.std.proofs.Common.{◌≡◌, All, map, take}
use Rattle.lab_sched.specs.Held.{IsHeld, process_view}
use Rattle.lab_session.proofs.state.copy_of_world.Given as goal

-- the copies so far are those of the first processes
abbrev pub invariant-loop-pid : goal.invariant-loop-pid
invariant-loop-pid l = (map process_view l.copies.items ≡ take l.pid l.world.processes) × All IsHeld l.copies.items
