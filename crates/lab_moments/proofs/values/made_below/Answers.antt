use Rattle.std.proofs.Common.{arith}
use Rattle.std.proofs.lemmas.Grind.{common_steps}
use Rattle.lab_moments.proofs.ValueLemmas.{all_below_more}
use Rattle.lab_moments.proofs.values.made_below.Goals as goal

pub loop-i-preserved : goal.loop-i-preserved
loop-i-preserved g c = λ f each.
    let was = c.loop-i.invariant f each in
    let made = each c.loop-i.i c.loop-i-test.true c.make.result c.make.ensures in
    grind (arith, common_steps, all_below_more f c.loop-i.i, was, made)
