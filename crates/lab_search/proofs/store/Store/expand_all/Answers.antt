use Rattle.std.proofs.Common.{below_more}
use Rattle.lab_search.specs.Reduced.{IsExpandedIn}
use Rattle.lab_search.proofs.Growths.{later_more, are_expanded_in_grows, stopped}
use Rattle.lab_search.proofs.store.Store.expand_all.Goals as goal

pub loop-at-preserved : goal.loop-at-preserved
loop-at-preserved g c =
    let t = c.loop-at.self in
    let u = c.expand_in.new.self in
    let g = c.in_ok-expanded_in.ensures.later.grows in
    record {
      later = later_more c.args.self.now t u c.loop-at.invariant.later c.in_ok-expanded_in.ensures.later;
      all = λ is. below_more (λ i. IsExpandedIn c.args.reduced c.args.uses.now u i) c.loop-at.at
          (λ i below. are_expanded_in_grows c.args.reduced c.args.uses.now t u i g (c.loop-at.invariant.all (c.both-whole.ensures.first is) i below))
          (c.in_ok-expanded_in.ensures.expanded_in (c.both-whole.ensures.second is));
    }

pub returns-then-full-clause-later : goal.returns-then-full-clause-later
returns-then-full-clause-later g c =
    let t = c.loop-at.self in
    later_more c.args.self.now t c.stop_by.new.self c.loop-at.invariant.later (stopped t c.stop_by.new.self c.loop-at.invariant.later.store c.stop_by.ensures.same)
