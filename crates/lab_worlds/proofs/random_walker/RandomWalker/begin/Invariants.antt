use Rattle.std.proofs.Common.{◌≡◌, All, length}
use Rattle.lab_sched.specs.Held.{IsHeld}
use Rattle.lab_worlds.proofs.random_walker.RandomWalker.begin.Given as goal

abbrev pub invariant-loop-pid : goal.invariant-loop-pid
invariant-loop-pid l = All IsHeld l.self.processes.items × (length l.self.processes.items ≡ length l.fn.self.processes.items)
