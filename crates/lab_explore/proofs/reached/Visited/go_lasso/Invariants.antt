use Rattle.lab_worlds.specs.Walked.{KeepsStart}
use Rattle.lab_explore.proofs.reached.Visited.go_lasso.Given as goal

abbrev pub invariant-loop-edge : goal.invariant-loop-edge
invariant-loop-edge l = KeepsStart l.fn.walk l.walk
