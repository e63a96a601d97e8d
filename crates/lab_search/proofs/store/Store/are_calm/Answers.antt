use Rattle.std.proofs.Common.{ℕ, below_more, arith, ◌<◌}
use Rattle.lab_sched.proofs.ListPlaces.{get_past}
use Rattle.lab_sched.specs.Worlds.{WorldState}
use Rattle.lab_worlds.specs.Independent.{KeepsTo}
use Rattle.lab_search.specs.Stored.{IsAt}
use Rattle.lab_search.proofs.store.Store.are_calm.Goals as goal

pub loop-at-preserved : goal.loop-at-preserved
loop-at-preserved c = below_more (λ i. (w : WorldState) (p : ℕ) → IsAt c.args.self.now i w → KeepsTo c.args.uses.now w p) c.loop-at.at c.loop-at.invariant (c.keep_to_at.ensures.yes c.if-not-keep_to_at.false)

pub returns : goal.returns
returns c = record {
  calm = λ is i w here. record {
    keep = λ p.
        let within = get_past c.args.self.now.rows i here.0 here.1 in
        let end = c.loop-at-test.false in
        let below : i < c.loop-at.at = omega (arith, within, end) in
        c.loop-at.invariant i below w p here;
    low = c.are_low.ensures.low is here.0.kernel w.kernel here.2.kernel;
  };
}
