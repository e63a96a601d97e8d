use Rattle.std.proofs.Common.{◌≡◌, length, take}
use Rattle.lab_sched.specs.Schedules.{steps_of}
use Rattle.lab_sched.specs.Worlds.{run}
use Rattle.lab_sched.proofs.world.World.run_watched.Given as goal

abbrev pub invariant-loop-block : goal.invariant-loop-block
invariant-loop-block g l = record {
  world : l.self ≡ run l.fn.self (steps_of (take l.block-index l.blocks));
  done : l.done ≡ length (steps_of (take l.block-index l.blocks));
}
