use Rattle.std.proofs.Common.{ℕ, ◌<◌}
use Rattle.lab_sched.specs.Worlds.{WorldState}
use Rattle.lab_worlds.specs.Independent.{KeepsTo}
use Rattle.lab_search.specs.Stored.{IsAt}
use Rattle.lab_search.proofs.store.Store.are_calm.Given as goal

abbrev pub invariant-loop-at : goal.invariant-loop-at
invariant-loop-at l = (i : ℕ) → i < l.at → (w : WorldState) (p : ℕ) → IsAt l.self i w → KeepsTo l.uses w p
