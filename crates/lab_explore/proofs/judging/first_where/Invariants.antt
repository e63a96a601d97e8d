use Rattle.std.proofs.Common.{ℕ, ◌<◌, ◌-◌}
use Rattle.lab_explore.specs.Private.Judged.{RowFails}
use Rattle.lab_explore.proofs.judging.first_where.Given as goal

abbrev pub decreases-loop-start : goal.decreases-loop-start
decreases-loop-start g l = l.count - l.start

abbrev pub invariant-loop-start : goal.invariant-loop-start
invariant-loop-start g l = (i : ℕ) → i < l.start → RowFails l.store l.condition i
