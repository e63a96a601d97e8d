use Rattle.lab_worlds.specs.Walked.{KeepsStart}
use Rattle.lab_worlds.proofs.walking.Walk.go_local.Given as goal

abbrev pub invariant-loop-pid : goal.invariant-loop-pid
invariant-loop-pid l = KeepsStart l.fn.self l.self
