use Rattle.std.proofs.Common.{ℕ, ◌<◌, IsTrue}
use Rattle.lab_explore.specs.Private.Judged.{IsCalmAt}
use Rattle.lab_explore.proofs.reached.Visited.first_refusal.Given as goal

abbrev pub invariant-loop-at : goal.invariant-loop-at
invariant-loop-at l = IsTrue l.self.complete → (i : ℕ) → i < l.at → (p : ℕ) → IsCalmAt l.refusal l.self.store i p
