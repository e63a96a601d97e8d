use Rattle.std.proofs.Common.{arith, ap, length}
use Rattle.ipc_kernel.proofs.places.Places.of.Goals as goal

pub names_of-requires : goal.names_of-requires
names_of-requires c = record { few = omega (arith, c.in_ok-places.ensures.count, ap length c.as_slice.ensures.value) }

pub names_of-requires-2 : goal.names_of-requires-2
names_of-requires-2 c = record { few = omega (arith, c.in_ok-places.ensures.count, ap length c.as_slice-2.ensures.value) }
