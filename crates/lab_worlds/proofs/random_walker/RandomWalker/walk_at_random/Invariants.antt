use Rattle.std.proofs.Common.{All}
use Rattle.lab_sched.specs.Held.{IsHeld}
use Rattle.lab_worlds.proofs.random_walker.RandomWalker.walk_at_random.Given as goal

abbrev pub invariant-loop : goal.invariant-loop
invariant-loop l = All IsHeld l.self.processes.items
