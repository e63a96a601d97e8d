use Rattle.std.proofs.Common.{◌-◌, arith, rules}
use Rattle.lab_sched.proofs.Runs.{run-none, run_on, length-run}
use Rattle.lab_sched.proofs.world.World.run_block.Goals as goal

pub loop-left-init : goal.loop-left-init
loop-left-init g c = search (rules, run-none)

pub loop-left-preserved : goal.loop-left-preserved
loop-left-preserved g c = record {
  world = run_on c.args.self.now c.loop-left.self c.run_steps.new.self (c.args.count - c.loop-left.left) c.min-most.result (c.args.count - (c.loop-left.left - c.min-most.result)) c.args.pid
      c.loop-left.invariant.world c.in_default.ensures.world (omega (arith, c.loop-left.invariant.within));
  within = omega (arith, c.loop-left.invariant.within);
}

pub returns-in-Err-clause-stop : goal.returns-in-Err-clause-stop
returns-in-Err-clause-stop g c = search (rules, run_on, c.args.self.now, c.loop-left.self, c.run_steps.new.self, c.args.count, c.loop-left.left, c.in-Err.stop.done, c.from.result, c.args.pid, c.loop-left.invariant.world, c.in-Err.ensures.stop, c.from.ensures)

pub returns-in-Err-clause-no_process : goal.returns-in-Err-clause-no_process
returns-in-Err-clause-no_process g c = search (rules, length-run)
