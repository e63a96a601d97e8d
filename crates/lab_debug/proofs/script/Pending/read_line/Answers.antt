use Rattle.std.proofs.Common.{rules, arith}
use Rattle.std.proofs.lemmas.Grind.{common_steps}
use Rattle.lab_debug.proofs.LineLemmas.{IsWithin-more, IsWithin-feed, IsWithin-last, IsWithin-longer}
use Rattle.lab_debug.proofs.script.Pending.read_line.Goals as goal

pub returns-in_default-next-clause-line : goal.returns-in_default-next-clause-line
returns-in_default-next-clause-line g c =
    let took = rw c.in_default-next.is at c.in-Ok.ensures.byte in
    IsWithin-last _ _ _ c.loop-next.line.items (search rules) c.loop-next.invariant.within took.0 took.1

pub returns-then-byte-eq10-clause-line : goal.returns-then-byte-eq10-clause-line
returns-then-byte-eq10-clause-line g c =
    let took = rw c.in-Some.is at c.in-Ok.ensures.byte in
    IsWithin-feed _ _ _ c.loop-next.line.items c.loop-next.invariant.within (rw c.if-byte-eq10.true at took)

pub returns-then-len-eq-LINE_LIMIT-clause-err : goal.returns-then-len-eq-LINE_LIMIT-clause-err
returns-then-len-eq-LINE_LIMIT-clause-err g c =
    let took = rw c.in-Some.is at c.in-Ok.ensures.byte in
    IsWithin-longer _ _ _ c.loop-next.line.items c.in-Some.byte _ c.if-byte-eq10.false (search rules) c.loop-next.invariant.within took

pub loop-next-preserved : goal.loop-next-preserved
loop-next-preserved g c =
    let took = rw c.in-Some.is at c.in-Ok.ensures.byte in record {
      within = rw c.in_ok-push.ensures.items (IsWithin-more _ _ _ c.loop-next.line.items c.in-Some.byte c.if-byte-eq10.false c.loop-next.invariant.within took);
      short = grind (arith, common_steps);
    }
