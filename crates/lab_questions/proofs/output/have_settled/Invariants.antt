use Rattle.std.proofs.Common.{ℕ, ◌≡◌, ◌<◌, Some, slice_get}
use Rattle.lab_sched.specs.Worlds.{Process}
use Rattle.lab_questions.specs.Requirements.{HasSettled}
use Rattle.lab_questions.proofs.output.have_settled.Given as goal

-- the processes so far are so
abbrev pub invariant-loop-pid : goal.invariant-loop-pid
invariant-loop-pid l = (p : ℕ) (s : Process) → p < l.pid → slice_get l.world.processes p ≡ Some s → HasSettled l.by_halt l.waiters p s
