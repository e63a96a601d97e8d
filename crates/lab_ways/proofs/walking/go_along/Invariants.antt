use Rattle.lab_ways.specs.Private.Marked.{KeepsWatched}
use Rattle.lab_ways.proofs.walking.go_along.Given as goal

abbrev pub invariant-loop-edge : goal.invariant-loop-edge
invariant-loop-edge l = KeepsWatched l.wanted l.fn.walk l.walk
