use Rattle.std.proofs.Common.{ℕ, ◌≡◌, ◌<◌, slice_get}
use Rattle.lab_worlds.specs.Unwaiting.{unwaiting}
use Rattle.lab_worlds.proofs.walking.none_waits.Given as goal

abbrev pub invariant-loop-pid : goal.invariant-loop-pid
invariant-loop-pid l = (p : ℕ) → p < l.pid → slice_get (unwaiting l.world).processes p ≡ slice_get l.world.processes p
