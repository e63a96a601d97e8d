use Rattle.std.proofs.Common.{◌≡◌, ◌≤◌, map}
use Rattle.lab_sched.specs.Held.{process_view}
use Rattle.lab_conditions.proofs.Counts.{counted}
use Rattle.lab_conditions.proofs.judging.how_many.Given as goal

-- the processes so far are counted
abbrev pub invariant-loop-pid : goal.invariant-loop-pid
invariant-loop-pid l = record {
  few : l.count ≤ l.pid;
  counted : l.count ≡ counted l.state l.kernel (map (λ s. process_view s.now) l.processes) l.pid;
}
