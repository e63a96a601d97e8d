use Rattle.std.proofs.Common.{take}
use Rattle.ipc_kernel.specs.Private.Index.{IsIndexOf, name_at, name_by}
use Rattle.ipc_kernel.proofs.places.assembly.names_of.Given as goal

abbrev pub invariant-loop-at : goal.invariant-loop-at
invariant-loop-at l = IsIndexOf (name_at (name_by l.kind) (take l.at l.places)) l.names
