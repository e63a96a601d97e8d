use Rattle.std.proofs.Common.{ℕ, ◌≡◌, ◌<◌, slice_get}
use Rattle.lab_worlds.proofs.ahead.are_alike.Given as goal

abbrev pub invariant-loop-pid : goal.invariant-loop-pid
invariant-loop-pid l = (p : ℕ) → p < l.pid → slice_get l.other.processes p ≡ slice_get l.world.processes p
