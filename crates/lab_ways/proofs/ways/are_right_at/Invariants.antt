use Rattle.std.proofs.Common.{ℕ, ◌<◌}
use Rattle.lab_ways.specs.Private.Marked.{IsRight}
use Rattle.lab_ways.proofs.ways.are_right_at.Given as goal

abbrev pub invariant-loop-state : goal.invariant-loop-state
invariant-loop-state l = (s : ℕ) → s < l.state → IsRight l.wanted l.visited.store l.marks l.row s
