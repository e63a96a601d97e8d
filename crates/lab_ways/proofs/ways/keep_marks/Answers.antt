use Rattle.std.proofs.Common.{arith, below_more}
use Rattle.lab_sched.proofs.ListPlaces.{get_past}
use Rattle.lab_ways.specs.Private.Marked.{KeepsMarksAt}
use Rattle.lab_ways.proofs.MarkedRows.{marks_kept}
use Rattle.lab_ways.proofs.ways.keep_marks.Goals as goal

pub loop-at-preserved : goal.loop-at-preserved
loop-at-preserved c =
    let x = c.args.wanted.now in
    let t = c.args.store.now in
    let m = c.args.marks.now in
    below_more (KeepsMarksAt x t m) _ c.loop-at.invariant (marks_kept x t m c.loop-at.at c.in-Some.edge c.in-Some.ensures.edge (c.in_ok-keeps_marks.ensures.yes c.if-not-branch.false))

pub returns : goal.returns
returns c = record {
  yes = λ is k e there.
      let below = get_past c.args.store.now.edges k e there in
      c.loop-at.invariant k (omega arith) e there;
}
