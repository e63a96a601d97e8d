use Rattle.std.proofs.Common.{length, take, get_or, ap, ◌∙◌, sym, arith, length-append, rules}
use Rattle.lab_sched.specs.Schedules.{block, steps_of}
use Rattle.lab_sched.specs.Worlds.{run}
use Rattle.lab_sched.proofs.Runs.{run-none, length-run}
use Rattle.lab_sched.proofs.ScheduleRuns.{steps_of-none, steps-more, ran-more, ran-until, next-step, steps-among, steps-few}
use Rattle.std.proofs.lemmas.List.{length-replicate}
use Rattle.lab_sched.proofs.world.World.run_watched.Goals as goal

pub loop-block-init : goal.loop-block-init
loop-block-init g c = record { world = sym (ap (run c.args.self.now) steps_of-none ∙ run-none c.args.self.now); done = ap length (sym steps_of-none) }

pub overflow_add-result : goal.overflow_add-result
overflow_add-result g c = search (rules, steps-few, steps-among)

pub overflow_add-done : goal.overflow_add-done
overflow_add-done g c = search (rules, steps-few, steps-among)

pub returns-in-Err-clause-stop : goal.returns-in-Err-clause-stop
returns-in-Err-clause-stop g c =
    let bs = c.blocks-blocks.result.now in
    rw (← c.blocks-blocks.ensures.value)
    (ran-until c.args.self.now c.loop-block.self c.run_block.new.self bs c.loop-block.block-index c.in-Err.stop.done c.loop-block.done (block 0 0) c.loop-block-test.true
    c.in-Err.ensures.within c.loop-block.invariant.done c.loop-block.invariant.world c.in-Err.ensures.stop)

pub returns-in-Err-clause-within : goal.returns-in-Err-clause-within
returns-in-Err-clause-within g c = search (rules, steps-among)

pub returns-in-Err-clause-no_process : goal.returns-in-Err-clause-no_process
returns-in-Err-clause-no_process g c = search (rules, length-run, next-step)

pub loop-block-preserved : goal.loop-block-preserved
loop-block-preserved g c =
    let bs = c.blocks-blocks.result.now in
    let i = c.loop-block.block-index in
    record {
      world = ran-more c.args.self.now c.loop-block.self c.run_block.new.self bs i (block 0 0) c.loop-block-test.true c.loop-block.invariant.world c.in_default.ensures.world;
      done =
          let more = ap length (steps-more bs i (block 0 0) c.loop-block-test.true) ∙ length-append (steps_of (take i bs)) _ in
          omega (arith, more, length-replicate (get_or bs i (block 0 0)).count (get_or bs i (block 0 0)).pid, c.loop-block.invariant.done, c.from-done.ensures);
    }
