use Rattle.std.proofs.Common.{length}
use Rattle.lab_ways.proofs.wanted.+are_held.Given as goal

abbrev pub decreases-are_held : goal.decreases-are_held
decreases-are_held l = length l.names.now
