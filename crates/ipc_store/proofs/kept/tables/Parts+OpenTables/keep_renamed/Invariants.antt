use Rattle.std.proofs.Common.{◌≡◌, Some, map, slice_get, take}
use Rattle.ipc_kernel.specs.Processes.{process_at}
use Rattle.ipc_kernel.specs.Alike.{renamed_process}
use Rattle.ipc_store.specs.Private.KeptRows.{Grows}
use Rattle.ipc_store.specs.Private.Renamings.{renamed_by}
use Rattle.ipc_store.proofs.kept.tables.Parts+OpenTables.keep_renamed.Given as goal

abbrev pub invariant-loop-number : goal.invariant-loop-number
invariant-loop-number l =
    (map (slice_get l.self) l.kept.items ≡ map Some (map (renamed_process (renamed_by l.to)) (map (process_at l.initial.self) (take l.number-index l.numbers))))
    × Grows l.initial.self l.self
