use Rattle.std.proofs.Common.{◌≡◌, ◌≤◌, count_by, take}
use Rattle.lab_sched.specs.Verdicts.{is_waiting}
use Rattle.lab_worlds.proofs.walking.count_waiting.Given as goal

abbrev pub invariant-loop-pid : goal.invariant-loop-pid
invariant-loop-pid l = record {
  count : l.count ≡ count_by is_waiting (take l.pid l.world.processes);
  few : l.count ≤ l.pid;
}
