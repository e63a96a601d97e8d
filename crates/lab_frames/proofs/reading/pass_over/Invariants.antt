use Rattle.std.proofs.Common.{◌≡◌, ◌+◌, List, ℕ, length}
use Rattle.std.specs.Io.KnownBytes.{Consumes}
use Rattle.lab_frames.proofs.reading.pass_over.Given as goal

-- what came is what was passed over and what still comes
abbrev pub invariant-loop-left : goal.invariant-loop-left
invariant-loop-left g l = (passed : List ℕ) × Consumes (g.R.Read.remaining l.initial.input.device) (g.R.Read.remaining l.input.device) passed × (length passed + l.left ≡ l.count)

abbrev pub decreases-loop-left : goal.decreases-loop-left
decreases-loop-left g l = l.left
