use Rattle.lab_worlds.specs.Segments.{KeepsSegment}
use Rattle.lab_worlds.proofs.closed_walks.FairSegment.go_walk_parts.Given as goal

abbrev pub invariant-loop-walk_part : goal.invariant-loop-walk_part
invariant-loop-walk_part l = KeepsSegment l.fn.self l.self
