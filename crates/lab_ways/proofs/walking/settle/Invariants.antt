use Rattle.lab_ways.specs.Private.Marked.{KeepsWatched}
use Rattle.lab_ways.proofs.walking.settle.Given as goal

abbrev pub invariant-loop-pid : goal.invariant-loop-pid
invariant-loop-pid l = KeepsWatched l.wanted l.fn.walk l.walk
