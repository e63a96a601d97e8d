use Rattle.std.proofs.Common.{length}
use Rattle.lab_ways.proofs.wanted.+next_units.Given as goal

abbrev pub decreases-next_units : goal.decreases-next_units
decreases-next_units l = length l.names.now
