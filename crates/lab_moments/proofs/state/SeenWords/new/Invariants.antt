use Rattle.std.proofs.Common.{◌≡◌}
use Rattle.lab_moments.specs.States.{shown_in}
use Rattle.lab_moments.specs.Values.{all_below}
use Rattle.lab_moments.specs.Words.{none_seen, seen_with}
use Rattle.lab_moments.proofs.state.SeenWords.new.Given as goal

-- those of the processes so far are added
abbrev pub invariant-loop-pid : goal.invariant-loop-pid
invariant-loop-pid l = l.seen ≡ seen_with (none_seen 65536) (all_below l.pid (shown_in l.world))
