use Rattle.lab_worlds.specs.Segments.{KeepsSegment}
use Rattle.lab_worlds.proofs.closed_walks.FairSegment.go_walk_part.Given as goal

abbrev pub invariant-loop : goal.invariant-loop
invariant-loop l = KeepsSegment l.fn.self l.self
