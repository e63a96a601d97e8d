use Rattle.ipc_kernel.proofs.PlaceCopies.{place_read}
use Rattle.ipc_kernel.proofs.place.Place.is_same.Goals as goal

pub returns : goal.returns
returns c = record { same = place_read c.args.self.now c.args.other.now c.eq.result c.eq.ensures }
