use Rattle.std.proofs.Common.{ℕ, ◌<◌}
use Rattle.lab_explore.specs.Private.Ranked.{IsKept}
use Rattle.lab_explore.proofs.reached.Visited.are_ranked.Given as goal

abbrev pub invariant-loop-at : goal.invariant-loop-at
invariant-loop-at l = (i : ℕ) → i < l.at → IsKept l.self.store l.ranks l.starved_processes i
