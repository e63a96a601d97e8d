use Rattle.std.proofs.Common.{◌≡◌, ◌++◌, [], get_or, map}
use Rattle.lab_states.specs.Private.Outputs.{joined, outputs_of}
use Rattle.lab_states.proofs.outputs.path_to.Given as goal

abbrev pub invariant-loop-at : goal.invariant-loop-at
invariant-loop-at l = get_or (outputs_of l.pieces) l.at [] ++ joined (map (λ p. p.now) l.path.items) ≡ get_or (outputs_of l.pieces) l.number []

abbrev pub decreases-loop-at : goal.decreases-loop-at
decreases-loop-at l = l.at
