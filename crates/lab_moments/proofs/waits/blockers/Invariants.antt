use Rattle.std.proofs.Common.{◌≡◌, [], ◌∷◌}
use Rattle.lab_moments.specs.Objects.{awaited_at}
use Rattle.lab_moments.specs.Values.{all_below}
use Rattle.lab_moments.specs.Waits.{blocker_in}
use Rattle.lab_moments.proofs.waits.blockers.Given as goal

-- those of the processes so far are added
abbrev pub invariant-loop-pid : goal.invariant-loop-pid
invariant-loop-pid l = l.blockers.items ≡ all_below l.pid (λ p. blocker_in l.world l.holds (awaited_at l.world p) ∷ [])
