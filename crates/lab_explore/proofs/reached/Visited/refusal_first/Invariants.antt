use Rattle.std.proofs.Common.{ℕ, ◌<◌, IsTrue}
use Rattle.lab_explore.specs.Visits.{start_of}
use Rattle.lab_explore.specs.Private.Judged.{BeginsQuietly}
use Rattle.lab_explore.proofs.reached.Visited.refusal_first.Given as goal

abbrev pub invariant-loop-pid : goal.invariant-loop-pid
invariant-loop-pid l = IsTrue l.self.complete → (p : ℕ) → p < l.pid → BeginsQuietly l.refusal (start_of l.self) p
