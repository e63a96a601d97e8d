use Rattle.std.proofs.Common.{◌<◌, arith, below_more, subst, sym}
use Rattle.lab_ways.specs.Private.Marked.{IsMarked, KeepsMark}
use Rattle.lab_ways.proofs.ways.keeps_marks.Goals as goal

pub loop-state-preserved-then-is_unmarked : goal.loop-state-preserved-then-is_unmarked
loop-state-preserved-then-is_unmarked c =
    below_more (KeepsMark c.args.wanted.now c.args.store.now c.args.marks.now c.args.edge.now) _ c.loop-state.invariant (λ marked w here. absurd (c.is_unmarked.ensures.yes c.if-is_unmarked.true marked))

pub loop-state-preserved : goal.loop-state-preserved
loop-state-preserved c =
    let m = c.args.marks.now in
    let e = c.args.edge.now in
    below_more (KeepsMark c.args.wanted.now c.args.store.now m e) _ c.loop-state.invariant (λ marked w here.
    subst (λ n. (n < m.states) × IsMarked m e.to n) (sym (c.in_ok-next.ensures.state w here)) (omega arith, c.is_marked.ensures.yes c.if-not-is_marked.false))

pub returns : goal.returns
returns c = record { yes = λ is s below. c.loop-state.invariant s (omega arith) }
