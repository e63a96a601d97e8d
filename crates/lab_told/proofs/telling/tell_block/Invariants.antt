use Rattle.std.proofs.Common.{◌≡◌, ◌+◌, ◌-◌, ◌<◌, ◌≤◌, length, replicate}
use Rattle.lab_told.specs.Scenes.{scene_at, scene_after}
use Rattle.lab_told.specs.Tellings.{TellsAll}
use Rattle.lab_told.proofs.telling.tell_block.Given as goal

-- the steps so far are taken and told
abbrev pub invariant-loop-done : goal.invariant-loop-done
invariant-loop-done g l = record {
  within : l.done ≤ l.steps.count;
  scene : scene_at (l.steps.first + l.done) l.world l.tally ≡ scene_after (scene_at l.steps.first l.fn.world l.fn.tally) (replicate l.done l.steps.pid);
  told : TellsAll (g.T.Telling.tells l.telling) (scene_at l.steps.first l.fn.world l.fn.tally) (replicate l.done l.steps.pid) l.fn.output l.output;
  there : l.steps.pid < length l.world.processes;
}

abbrev pub decreases-loop-done : goal.decreases-loop-done
decreases-loop-done g l = l.steps.count - l.done
