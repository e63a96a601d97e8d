use Rattle.std.proofs.Common.{below_more}
use Rattle.lab_search.specs.Stored.{HasEdgeIfEnabled}
use Rattle.lab_search.proofs.Growths.{later_more, at_grows, expanded_in_grows}
use Rattle.lab_search.proofs.StepsOfRows.{all_expanded_in}
use Rattle.lab_search.proofs.store.Store.expand.Goals as goal

pub loop-pid-preserved : goal.loop-pid-preserved
loop-pid-preserved c =
    let t = c.loop-pid.self in
    let u = c.try_process.new.self in
    let g = c.in_ok-expanded_in.ensures.later.grows in
    record {
      later = later_more c.args.self.now t u c.loop-pid.invariant.later c.in_ok-expanded_in.ensures.later;
      expanded_in = λ is w here. below_more (λ p. HasEdgeIfEnabled u c.args.at w p) c.loop-pid.pid
          (λ p below. expanded_in_grows t u c.args.at w p g (c.loop-pid.invariant.expanded_in (c.both-whole.ensures.first is) w here p below))
          (c.in_ok-expanded_in.ensures.expanded_in (c.both-whole.ensures.second is) w (at_grows c.args.self.now t c.args.at w c.loop-pid.invariant.later.grows here));
    }

pub returns-clause-expanded : goal.returns-clause-expanded
returns-clause-expanded c is =
    all_expanded_in c.args.self.now c.loop-pid.self c.args.at c.in-Some.count c.loop-pid.pid c.requires.store c.loop-pid.invariant.later.grows c.in-Some.ensures.width c.loop-pid-test.false
    (c.loop-pid.invariant.expanded_in is)
