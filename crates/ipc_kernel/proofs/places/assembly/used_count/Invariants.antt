use Rattle.std.proofs.Common.{◌≡◌, ◌≤◌, length, take}
use Rattle.ipc_kernel.specs.Places.{padded}
use Rattle.ipc_kernel.proofs.places.assembly.used_count.Given as goal

abbrev pub invariant-loop-count : goal.invariant-loop-count
invariant-loop-count l = (l.count ≤ length l.places) × (padded (length l.places) (take l.count l.places) ≡ l.places)

abbrev pub decreases-loop-count : goal.decreases-loop-count
decreases-loop-count l = l.count
