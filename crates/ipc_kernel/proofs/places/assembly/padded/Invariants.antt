use Rattle.std.proofs.Common.{◌≡◌, ◌≤◌, ◌-◌, length}
use Rattle.ipc_kernel.specs.Limits.{object_places}
use Rattle.ipc_kernel.specs.Places.{padded}
use Rattle.ipc_kernel.proofs.places.assembly.padded.Given as goal

abbrev pub invariant-loop-all : goal.invariant-loop-all
invariant-loop-all l = (length l.all.items ≤ 64) × (padded object_places l.all.items ≡ padded object_places l.initial.all.items)

abbrev pub decreases-loop-all : goal.decreases-loop-all
decreases-loop-all l = 64 - length l.all.items
