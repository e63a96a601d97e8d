use Rattle.std.proofs.Common.{◌≡◌, ◌<◌, ℕ}
use Rattle.std.specs.Int.{bit_at}
use Rattle.lab_sched.specs.Settled.{HasStopped, IsShort}
use Rattle.lab_sched.proofs.world.World.bits_of_left.Given as goal

abbrev pub invariant-loop-pid : goal.invariant-loop-pid
invariant-loop-pid l = record {
  stopped : (p : ℕ) → p < l.pid → HasStopped l.self l.left l.bits p;
  bits : (p : ℕ) → bit_at l.bits p ≡ 1 → IsShort l.self l.left p;
}
