use Rattle.std.proofs.Common.{below_more, arith}
use Rattle.lab_explore.specs.Private.Judged.{IsCalmAt}
use Rattle.lab_explore.proofs.CalmRows.{calm_row}
use Rattle.lab_explore.proofs.reached.Visited.refusal_at.Goals as goal

pub loop-pid-preserved : goal.loop-pid-preserved
loop-pid-preserved c whole = below_more (IsCalmAt c.args.refusal.now c.args.self.now.store c.args.at) c.loop-pid.pid (c.loop-pid.invariant whole) (c.in_ok-turn.ensures.calm c.in_default-2.is whole)

pub returns : goal.returns
returns c = record {
  calm = λ none whole. calm_row c.args.refusal.now c.args.self.now.store c.args.at c.in-Some.count c.in-Some.ensures.width (λ p below. c.loop-pid.invariant whole p (omega arith));
}
