use Rattle.std.proofs.Common.{take}
use Rattle.lab_explore.proofs.FirstRows.{IsLeast}
use Rattle.lab_explore.proofs.judging.first_by_parts.Given as goal

abbrev pub invariant-loop-part : goal.invariant-loop-part
invariant-loop-part g l = IsLeast l.store l.condition l.fn.end l.rows l.size l.part-items (take l.part-index l.part-items) l.first
