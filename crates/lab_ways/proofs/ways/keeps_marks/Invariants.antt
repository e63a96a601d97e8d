use Rattle.std.proofs.Common.{ℕ, ◌<◌}
use Rattle.lab_ways.specs.Private.Marked.{KeepsMark}
use Rattle.lab_ways.proofs.ways.keeps_marks.Given as goal

abbrev pub invariant-loop-state : goal.invariant-loop-state
invariant-loop-state l = (s : ℕ) → s < l.state → KeepsMark l.wanted l.store l.marks l.edge s
