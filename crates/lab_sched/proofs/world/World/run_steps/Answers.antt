use Rattle.std.proofs.Common.{◌-◌, arith, rules}
use Rattle.lab_sched.proofs.Runs.{run-none, run_on, length-run}
use Rattle.lab_sched.proofs.world.World.run_steps.Goals as goal

pub loop-left-init : goal.loop-left-init
loop-left-init c = search (rules, run-none)

pub loop-left-preserved : goal.loop-left-preserved
loop-left-preserved c = record {
  world = run_on c.args.self.now c.loop-left.self c.advance.new.self (c.args.count - c.loop-left.left) c.in-Ok.taken (c.args.count - (c.loop-left.left - c.in-Ok.taken)) c.args.pid
      c.loop-left.invariant.world c.in-Ok.ensures.world (omega (arith, c.in-Ok.ensures.within, c.loop-left.invariant.within));
  within = omega (arith, c.loop-left.invariant.within);
}

pub returns-in-Err-clause-no_process : goal.returns-in-Err-clause-no_process
returns-in-Err-clause-no_process c = search (rules, length-run)
