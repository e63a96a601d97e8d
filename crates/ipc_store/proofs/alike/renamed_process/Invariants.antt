use Rattle.std.proofs.Common.{◌≡◌, ◌<◌, ◌++◌, length, map, take, drop}
use Rattle.std.specs.Option.{option_map}
use Rattle.ipc_kernel.specs.Alike.{renamed_descriptor, renamed_slot}
use Rattle.ipc_store.specs.Private.Renamings.{renamed_by}
use Rattle.ipc_store.proofs.alike.renamed_process.Given as goal

abbrev pub invariant-loop-at : goal.invariant-loop-at
invariant-loop-at l =
    (0 < l.at → (length l.process.descriptors ≡ 16) × (length l.process.slots ≡ 16))
    × (l.renamed.descriptors ≡ map (option_map (renamed_descriptor (renamed_by l.to))) (take l.at l.process.descriptors) ++ drop l.at l.process.descriptors)
    × (l.renamed.slots ≡ map (option_map (renamed_slot (renamed_by l.to))) (take l.at l.process.slots) ++ drop l.at l.process.slots)
