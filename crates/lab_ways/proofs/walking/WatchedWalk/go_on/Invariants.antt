use Rattle.lab_ways.specs.declared.wanted.Wanted.{Wanted}
use Rattle.lab_ways.specs.Private.Marked.{KeepsWatched}
use Rattle.lab_ways.proofs.walking.WatchedWalk.go_on.Given as goal

abbrev pub invariant-loop : goal.invariant-loop
invariant-loop l = (x : Wanted) → KeepsWatched x l.fn.self l.self
