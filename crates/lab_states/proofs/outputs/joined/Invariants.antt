use Rattle.std.proofs.Common.{◌≡◌, ◌++◌, length, map}
use Rattle.lab_states.specs.Private.Outputs.{joined}
use Rattle.lab_states.proofs.outputs.joined.Given as goal

abbrev pub invariant-loop-piece : goal.invariant-loop-piece
invariant-loop-piece l = l.bytes.items ++ joined (map (λ p. p.now) l.path.items) ≡ joined (map (λ p. p.now) l.fn.path.items)

abbrev pub decreases-loop-piece : goal.decreases-loop-piece
decreases-loop-piece l = length l.path.items
