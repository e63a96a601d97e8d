use Rattle.lab_sched.specs.Starts.{initial_world}
use Rattle.lab_worlds.specs.Walked.{IsWalk}
use Rattle.lab_worlds.proofs.random.end_along.Given as goal

abbrev pub invariant-loop-block : goal.invariant-loop-block
invariant-loop-block l = IsWalk (initial_world l.processes) l.walk
