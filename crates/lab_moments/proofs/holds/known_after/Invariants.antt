use Rattle.std.proofs.Common.{◌≡◌, [], ◌∷◌}
use Rattle.lab_moments.specs.Changes.{known_now}
use Rattle.lab_moments.specs.Values.{all_below}
use Rattle.lab_moments.proofs.holds.known_after.Given as goal

-- what is known of the places so far is added
abbrev pub invariant-loop-place : goal.invariant-loop-place
invariant-loop-place l = l.list.items ≡ all_below l.place (λ place. known_now l.objects l.kernel.places place ∷ [])
