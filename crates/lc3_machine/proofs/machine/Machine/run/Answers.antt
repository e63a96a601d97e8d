use Rattle.std.proofs.Common.{◌≡◌, ◌<◌, ◌-◌, refl, arith, rules}
use Rattle.lc3_machine.proofs.Runs.{steps_more}
use Rattle.lc3_machine.proofs.machine.Machine.run.Goals as goal

pub loop-left-init : goal.loop-left-init
loop-left-init c = let none : c.args.max - c.args.max ≡ 0 = omega arith in (omega arith, rw none refl)

pub loop-left-smaller : goal.loop-left-smaller
loop-left-smaller c = let less : c.loop-left.left - 1 < c.loop-left.left = omega (arith, c.loop-left-test.true) in less

pub loop-left-preserved : goal.loop-left-preserved
loop-left-preserved c = search (rules, steps_more)
