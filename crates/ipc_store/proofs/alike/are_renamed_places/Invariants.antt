use Rattle.std.proofs.Common.{ℕ, ◌<◌, ◌≡◌}
use Rattle.ipc_kernel.specs.Places.{place_at}
use Rattle.ipc_store.specs.Private.Renamings.{renamed_by}
use Rattle.ipc_store.proofs.alike.are_renamed_places.Given as goal

abbrev pub invariant-loop-at : goal.invariant-loop-at
invariant-loop-at l = (k : ℕ) → k < l.at → place_at l.others (renamed_by l.to k) ≡ place_at l.places k
