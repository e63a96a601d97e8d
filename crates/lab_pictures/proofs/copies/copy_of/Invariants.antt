use Rattle.std.proofs.Common.{◌≡◌, All, map, take}
use Rattle.lab_sched.specs.Held.{process_view, IsHeld}
use Rattle.lab_pictures.proofs.copies.copy_of.Given as goal

abbrev pub invariant-loop-pid : goal.invariant-loop-pid
invariant-loop-pid l = record {
  same : map process_view l.processes.items ≡ take l.pid l.world.processes;
  held : All IsHeld l.processes.items;
}
