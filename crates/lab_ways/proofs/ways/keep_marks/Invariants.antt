use Rattle.std.proofs.Common.{ℕ, ◌<◌}
use Rattle.lab_ways.specs.Private.Marked.{KeepsMarksAt}
use Rattle.lab_ways.proofs.ways.keep_marks.Given as goal

abbrev pub invariant-loop-at : goal.invariant-loop-at
invariant-loop-at l = (k : ℕ) → k < l.at → KeepsMarksAt l.wanted l.store l.marks k
