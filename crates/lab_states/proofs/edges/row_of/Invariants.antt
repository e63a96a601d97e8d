use Rattle.lab_states.specs.Private.Edges.{ArePast}
use Rattle.lab_states.proofs.edges.row_of.Given as goal

abbrev pub invariant-loop-row : goal.invariant-loop-row
invariant-loop-row l = ArePast l.ends l.row l.at
