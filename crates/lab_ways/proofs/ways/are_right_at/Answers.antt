use Rattle.std.proofs.Common.{arith, below_more}
use Rattle.lab_ways.specs.Private.Marked.{IsRight}
use Rattle.lab_ways.proofs.ways.are_right_at.Goals as goal

pub loop-state-preserved : goal.loop-state-preserved
loop-state-preserved c =
    below_more (IsRight c.args.wanted.now c.args.visited.now.store c.args.marks.now c.args.row) _ c.loop-state.invariant (c.is_right.ensures.yes c.if-not-is_right.false)

pub returns : goal.returns
returns c = record { yes = λ is s below. c.loop-state.invariant s (omega arith) }
