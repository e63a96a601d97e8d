use Rattle.lab_worlds.specs.Walked.{KeepsStart}
use Rattle.lab_worlds.proofs.walking.Walk.go_walk_parts.Given as goal

abbrev pub invariant-loop-walk_part : goal.invariant-loop-walk_part
invariant-loop-walk_part l = KeepsStart l.fn.self l.self
