use Rattle.std.proofs.Common.{true}
use Rattle.lab_worlds.proofs.Pushes.{within_more}
use Rattle.lab_states.proofs.edges.Edges.all.Goals as goal

pub loop-at-preserved : goal.loop-at-preserved
loop-at-preserved g c =
    within_more (λ e. g.F.Fn.post c.args.passes (e, tt) true) c.args.self.now c.loop-at.at c.in-Some.edge c.loop-at.invariant c.in-Some.ensures.edge c.if-not-passes.ensures
