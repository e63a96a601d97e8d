use Rattle.std.proofs.Common.{◌≡◌, ◌<◌, ℕ, Some, slice_get}
use Rattle.lab_sched.specs.Worlds.{Process}
use Rattle.lab_sched.specs.Verdicts.{HasEnded}
use Rattle.lab_sched.proofs.world.World.have_ended.Given as goal

abbrev pub invariant-loop-pid : goal.invariant-loop-pid
invariant-loop-pid l = (p : ℕ) (s : Process) → p < l.pid → slice_get l.self.processes p ≡ Some s → HasEnded s
