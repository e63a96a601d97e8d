use Rattle.lab_worlds.specs.Walked.{KeepsStart}
use Rattle.lab_explore.proofs.reached.Visited.go_calls.Given as goal

abbrev pub invariant-loop-call : goal.invariant-loop-call
invariant-loop-call l = KeepsStart l.fn.walk l.walk
