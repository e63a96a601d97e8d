use Rattle.lab_explore.specs.Private.Judged.{IsLoss}
use Rattle.lab_worlds.proofs.Pushes.{within_more}
use Rattle.lab_explore.proofs.reached.first_loss.Goals as goal

pub loop-at-preserved : goal.loop-at-preserved
loop-at-preserved c =
    within_more (λ e. IsLoss c.args.store.now e → ⊥) c.args.store.now.edges c.loop-at.at c.in-Some.edge c.loop-at.invariant c.in-Some.ensures.edge (c.in_ok-is_loss.ensures.no c.if-branch.false)
