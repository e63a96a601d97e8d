use Rattle.std.proofs.Common.{◌≡◌, ◌+◌, length, take}
use Rattle.lab_sched.specs.Schedules.{steps_of}
use Rattle.lab_told.specs.Scenes.{scene_at, scene_after}
use Rattle.lab_told.specs.Tellings.{TellsAll}
use Rattle.lab_told.proofs.telling.tell_run.Given as goal

-- the steps of the blocks so far are taken and told
abbrev pub invariant-loop-block : goal.invariant-loop-block
invariant-loop-block g l = record {
  first : l.first ≡ 1 + length (steps_of (take l.block-index l.blocks));
  scene : scene_at l.first l.world l.tally ≡ scene_after (scene_at 1 l.fn.world l.fn.tally) (steps_of (take l.block-index l.blocks));
  told : TellsAll (g.T.Telling.tells l.telling) (scene_at 1 l.fn.world l.fn.tally) (steps_of (take l.block-index l.blocks)) l.fn.output l.output;
  count : length l.world.processes ≡ length l.fn.world.processes;
}
