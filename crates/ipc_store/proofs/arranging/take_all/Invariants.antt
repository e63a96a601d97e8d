use Rattle.std.proofs.Common.{◌≡◌, ℕ, true, map, take}
use Rattle.std.specs.List.{list_any}
use Rattle.ipc_kernel.specs.Alike.{IsPermutation}
use Rattle.ipc_store.specs.Private.Renamings.{Permutes, Follows}
use Rattle.ipc_store.proofs.arranging.take_all.Given as goal

abbrev pub invariant-loop-at : goal.invariant-loop-at
invariant-loop-at g l =
    Permutes l.renaming
    × ((f h : ℕ → ℕ) → IsPermutation f h → l.others ≡ map (g.T.Refers.renamed f) l.helds → Follows f (λ i. list_any (g.T.Refers.refers i) (take l.at l.helds) ≡ true) l.initial.renaming l.renaming)
