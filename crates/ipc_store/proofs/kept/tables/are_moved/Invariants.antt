use Rattle.std.proofs.Common.{ℕ, ◌<◌, ◌≡◌, ◌==◌, Some, length, slice_get, if◌then◌else◌}
use Rattle.ipc_store.specs.Private.Renamings.{renamed_by}
use Rattle.ipc_store.proofs.kept.tables.are_moved.Given as goal

abbrev pub invariant-loop-place : goal.invariant-loop-place
invariant-loop-place l = (k : ℕ) → k < l.place → (renamed_by l.renaming.from k < length l.moved)
    × (slice_get l.moved (renamed_by l.renaming.to k) ≡ (if k == l.at then Some l.number else slice_get l.numbers k))
