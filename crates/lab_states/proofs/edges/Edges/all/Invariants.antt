use Rattle.std.proofs.Common.{true}
use Rattle.std.specs.List.{AllWithin}
use Rattle.lab_states.proofs.edges.Edges.all.Given as goal

abbrev pub invariant-loop-at : goal.invariant-loop-at
invariant-loop-at g l = AllWithin (λ e. goal.F-post g l.passes e true) l.self 0 l.at
