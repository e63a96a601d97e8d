use Rattle.lab_sched.specs.Starts.{initial_world}
use Rattle.lab_worlds.specs.Ends.{AreEnds}
use Rattle.lab_worlds.proofs.random.Gathering.take_all.Given as goal

abbrev pub invariant-loop-begun : goal.invariant-loop-begun
invariant-loop-begun g l = AreEnds (initial_world l.fn.processes) l.fn.self.ends.items → AreEnds (initial_world l.fn.processes) l.self.ends.items
