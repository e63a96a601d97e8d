use Rattle.std.proofs.Common.{◌≡◌, Some, map, slice_get, take}
use Rattle.ipc_store.proofs.kept.parts.Parts.copies.Given as goal

abbrev pub invariant-loop-number : goal.invariant-loop-number
invariant-loop-number g l = map (slice_get l.self) (take l.number-index l.numbers) ≡ map Some l.copies.items
