use Rattle.std.proofs.Common.{ℕ, ◌<◌, ◌≡◌, length}
use Rattle.ipc_kernel.specs.Limits.{object_places}
use Rattle.ipc_store.specs.Private.Renamings.{renamed_by}
use Rattle.ipc_store.proofs.alike.Renaming.new.Given as goal

abbrev pub invariant-loop-place : goal.invariant-loop-place
invariant-loop-place l = (length l.to ≡ object_places) × ((k : ℕ) → k < l.place → renamed_by l.to k ≡ k)
