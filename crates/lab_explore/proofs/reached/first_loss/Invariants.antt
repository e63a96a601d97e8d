use Rattle.std.specs.List.{AllWithin}
use Rattle.lab_explore.specs.Private.Judged.{IsLoss}
use Rattle.lab_explore.proofs.reached.first_loss.Given as goal

-- the edges so far lose no message
abbrev pub invariant-loop-at : goal.invariant-loop-at
invariant-loop-at l = AllWithin (λ e. IsLoss l.store e → ⊥) l.store.edges 0 l.at
