use Rattle.std.proofs.Common.{arith, below_more}
use Rattle.lab_sched.proofs.ListPlaces.{get_past}
use Rattle.lab_ways.specs.Private.Marked.{AreRightAt}
use Rattle.lab_ways.proofs.ways.are_right.Goals as goal

pub loop-row-preserved : goal.loop-row-preserved
loop-row-preserved c =
    below_more (AreRightAt c.args.wanted.now c.args.visited.now.store c.args.marks.now) _ c.loop-row.invariant (c.in_ok-are_right_at.ensures.yes c.if-not-branch.false)

pub returns : goal.returns
returns c = record {
  yes = λ is i s under marked w here.
      let below = get_past c.args.visited.now.store.rows i here.0 here.1 in
      c.loop-row.invariant i (omega arith) s under marked w here;
}
