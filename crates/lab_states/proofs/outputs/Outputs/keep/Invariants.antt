use Rattle.std.proofs.Common.{◌≡◌, ◌≤◌, ◌-◌, ◌++◌, [], Some, get_or, length, slice_get, take}
use Rattle.lab_states.specs.Private.Outputs.{Extends}
use Rattle.lab_states.proofs.outputs.Outputs.keep.Given as goal

abbrev pub invariant-loop-len : goal.invariant-loop-len
invariant-loop-len l = record {
  extends : Extends l.fn.self l.self;
  within : l.len ≤ length l.output;
  kept : slice_get l.self l.number ≡ Some (get_or l.fn.self l.before [] ++ take l.len l.output);
}

abbrev pub decreases-loop-len : goal.decreases-loop-len
decreases-loop-len l = length l.output - l.len
