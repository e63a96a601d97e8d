use Rattle.std.proofs.Common.{ℕ, ◌<◌}
use Rattle.lab_ways.specs.Private.Marked.{AreRightAt}
use Rattle.lab_ways.proofs.ways.are_right.Given as goal

abbrev pub invariant-loop-row : goal.invariant-loop-row
invariant-loop-row l = (i : ℕ) → i < l.row → AreRightAt l.wanted l.visited.store l.marks i
