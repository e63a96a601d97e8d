use Rattle.std.proofs.Common.{◌≡◌, ◌-◌, replicate}
use Rattle.lab_session.specs.Watches.{watched_words}
use Rattle.lab_session.proofs.StopLemmas.{went, behind}
use Rattle.lab_session.proofs.stepping.step_to_stop.Given as goal

-- the steps so far and those that are left come to what all come to, and no watched word has changed
abbrev pub invariant-loop-i : goal.invariant-loop-i
invariant-loop-i l = record {
  went : behind (replicate l.i l.pid) (went l.marks l.world (replicate (l.count - l.i) l.pid)) ≡ went l.marks l.initial.world (replicate l.count l.pid);
  words : watched_words l.marks l.world ≡ l.watched.items;
}
