use Rattle.std.proofs.Common.{◌≡◌, Some, map, slice_get, take}
use Rattle.ipc_store.specs.Private.KeptRows.{Grows}
use Rattle.ipc_store.proofs.kept.parts.Parts.keep_all.Given as goal

abbrev pub invariant-loop-part : goal.invariant-loop-part
invariant-loop-part g l = (map (slice_get l.self) l.numbers.items ≡ map Some (take l.part-index l.parts)) × Grows l.initial.self l.self
