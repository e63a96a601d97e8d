use Rattle.std.proofs.Common.{◌≡◌, All, map, take}
use Rattle.lab_sched.specs.Held.{process_view}
use Rattle.lab_sched.specs.Starts.{start_of, Runs}
use Rattle.lab_sched.proofs.process.starts_of.Given as goal

abbrev pub invariant-loop-program : goal.invariant-loop-program
invariant-loop-program l = record {
  starts : map process_view l.processes.items ≡ map (start_of l.profile) (take l.program-index l.programs);
  running : All Runs l.processes.items;
}
