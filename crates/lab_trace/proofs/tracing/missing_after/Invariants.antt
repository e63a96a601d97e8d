use Rattle.std.proofs.Common.{◌≡◌, ℕ, ◌<◌, length, take, get_or}
use Rattle.lab_sched.specs.Schedules.{block, steps_of}
use Rattle.lab_trace.proofs.MissingLemmas.{AreThereBefore}
use Rattle.lab_trace.proofs.tracing.missing_after.Given as goal

-- the steps of the blocks so far are of processes that are there
abbrev pub invariant-loop-block : goal.invariant-loop-block
invariant-loop-block l = record {
  done : l.done ≡ length (steps_of (take l.block-index l.schedule));
  there : AreThereBefore (length l.world.processes) (steps_of l.schedule) l.done;
  pids : (j : ℕ) → j < l.block-index → (get_or l.schedule j (block 0 0)).pid < length l.world.processes;
}
