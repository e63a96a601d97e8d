use Rattle.std.proofs.Common.{length}
use Rattle.lc3_messages.proofs.parts.parts_of.Given as goal

abbrev pub decreases-loop-token : goal.decreases-loop-token
decreases-loop-token l = length l.rest
