use Rattle.lab_worlds.specs.Walked.{KeepsStart}
use Rattle.lab_worlds.proofs.walking.Walk.go_on.Given as goal

abbrev pub invariant-loop : goal.invariant-loop
invariant-loop l = KeepsStart l.fn.self l.self
