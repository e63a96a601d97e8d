use Rattle.std.proofs.Common.{◌≡◌, flat_map, map, take}
use Rattle.lab_arguments.specs.Private.Outputs.{outputs_of}
use Rattle.lab_arguments.proofs.pieces.outputs_in.Given as goal

-- those of the values so far
abbrev pub invariant-loop-value : goal.invariant-loop-value
invariant-loop-value l = map (λ p. p.now) l.found.items ≡ flat_map outputs_of (take l.value-index (map (λ v. v.now) l.values))
