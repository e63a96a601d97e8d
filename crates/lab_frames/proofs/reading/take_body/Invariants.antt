use Rattle.std.proofs.Common.{◌≤◌, ◌-◌, length}
use Rattle.std.specs.Io.KnownBytes.{Consumes}
use Rattle.lab_frames.proofs.reading.take_body.Given as goal

-- what came is the body so far and what still comes
abbrev pub invariant-loop-bytes : goal.invariant-loop-bytes
invariant-loop-bytes g l = Consumes (g.R.Read.remaining l.initial.input.device) (g.R.Read.remaining l.input.device) l.body.items × (length l.body.items ≤ l.count)

abbrev pub decreases-loop-bytes : goal.decreases-loop-bytes
decreases-loop-bytes g l = l.count - length l.body.items
