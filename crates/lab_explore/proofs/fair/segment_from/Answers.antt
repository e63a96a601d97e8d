use Rattle.std.proofs.Common.{subst, sym}
use Rattle.lab_worlds.specs.Calls.{AreAlike}
use Rattle.lab_explore.proofs.fair.segment_from.Goals as goal

pub returns : goal.returns
returns c =
    let initial = c.args.initial in
    let segment = c.in_ok-go_lasso.ensures.segments initial c.in_ok-segment.ensures.segments in
    record {
      segment = c.is_whole.ensures.yes c.if-not-is_whole.false initial segment;
      returns = subst (λ w. AreAlike c.args.world.now w) (sym segment.walk.leads) (c.are_alike.ensures.alike c.if-not-are_alike.false);
    }
