use Rattle.std.proofs.Common.{◌≡◌, ℕ}
use Rattle.ipc_kernel.specs.Places.{place_at}
use Rattle.ipc_kernel.specs.Alike.{IsPermutation}
use Rattle.ipc_store.specs.Private.Renamings.{Permutes, Follows}
use Rattle.ipc_store.proofs.FollowingRenamings.{NamedBelow}
use Rattle.ipc_store.proofs.alike.take_names.Given as goal

abbrev pub invariant-loop-at : goal.invariant-loop-at
invariant-loop-at l =
    Permutes l.renaming
    × ((f g : ℕ → ℕ) → IsPermutation f g → ((i : ℕ) → place_at l.other.places (f i) ≡ place_at l.places i)
    → Follows f (NamedBelow l.places l.at) l.initial.renaming l.renaming)
