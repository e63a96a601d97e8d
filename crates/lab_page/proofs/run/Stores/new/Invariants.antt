use Rattle.std.proofs.Common.{◌≡◌, [], ◌∷◌, map}
use Rattle.lab_moments.specs.Values.{all_below}
use Rattle.lab_page.specs.Stores.{held_at}
use Rattle.lab_page.proofs.run.Stores.new.Given as goal

-- what the memories of the processes so far hold
abbrev pub invariant-loop-pid : goal.invariant-loop-pid
invariant-loop-pid l = map (λ v. v.items) l.held.items ≡ all_below l.pid (λ p. held_at l.sources l.world p ∷ [])
