use Rattle.std.proofs.Common.{length}
use Rattle.lc3_messages.proofs.texts.from_first_bad.Given as goal

abbrev pub decreases-loop-rest : goal.decreases-loop-rest
decreases-loop-rest l = length l.rest
