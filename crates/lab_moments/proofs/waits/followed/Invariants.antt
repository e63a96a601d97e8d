use Rattle.std.proofs.Common.{◌≡◌}
use Rattle.lab_moments.specs.Waits.{blocker, behind, followed}
use Rattle.lab_moments.proofs.waits.followed.Given as goal

-- the processes so far, and the next one
abbrev pub invariant-loop : goal.invariant-loop
invariant-loop l = record {
  followed : l.followed.items ≡ followed l.blockers l.counter (blocker l.blockers l.pid);
  next : l.next ≡ behind l.blockers (blocker l.blockers l.pid) l.counter;
}
