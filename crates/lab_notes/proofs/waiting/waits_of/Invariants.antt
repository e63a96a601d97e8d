use Rattle.std.proofs.Common.{◌≡◌}
use Rattle.lab_notes.specs.Waiting.{waits_below}
use Rattle.lab_notes.proofs.waiting.waits_of.Given as goal

-- those so far
abbrev pub invariant-loop-pid : goal.invariant-loop-pid
invariant-loop-pid l = l.waits.items ≡ waits_below l.world l.tally l.pid
