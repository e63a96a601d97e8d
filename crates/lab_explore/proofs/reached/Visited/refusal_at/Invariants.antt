use Rattle.std.proofs.Common.{ℕ, ◌<◌, IsTrue}
use Rattle.lab_explore.specs.Private.Judged.{IsCalmAt}
use Rattle.lab_explore.proofs.reached.Visited.refusal_at.Given as goal

abbrev pub invariant-loop-pid : goal.invariant-loop-pid
invariant-loop-pid l = IsTrue l.self.complete → (p : ℕ) → p < l.pid → IsCalmAt l.refusal l.self.store l.at p
