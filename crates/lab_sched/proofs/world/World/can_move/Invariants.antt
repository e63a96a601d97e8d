use Rattle.std.proofs.Common.{◌≡◌, ◌<◌, ℕ}
use Rattle.lab_sched.specs.Worlds.{nothing, step_effect_in}
use Rattle.lab_sched.proofs.world.World.can_move.Given as goal

abbrev pub invariant-loop-pid : goal.invariant-loop-pid
invariant-loop-pid l = (p : ℕ) → p < l.pid → step_effect_in l.self p ≡ nothing
