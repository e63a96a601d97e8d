use Rattle.std.proofs.Common.{ℕ, below_more, arith}
use Rattle.lab_sched.proofs.ListPlaces.{get_past}
use Rattle.lab_explore.specs.Private.Judged.{IsCalmAt}
use Rattle.lab_explore.proofs.reached.Visited.first_refusal.Goals as goal

pub loop-at-preserved : goal.loop-at-preserved
loop-at-preserved c whole =
    below_more (λ i. (p : ℕ) → IsCalmAt c.args.refusal.now c.args.self.now.store i p) c.loop-at.at (c.loop-at.invariant whole) (c.in_ok-turn.ensures.calm c.in_default-2.is whole)

pub returns : goal.returns
returns c = record {
  none = λ none whole. record {
    begins = c.in_ok-first.ensures.quiet c.in_default.is whole;
    rows = λ i p meant w s here.
        let within = get_past c.args.self.now.store.rows i here.0 here.1 in
        c.loop-at.invariant whole i (omega arith) p meant w s here;
  };
}
