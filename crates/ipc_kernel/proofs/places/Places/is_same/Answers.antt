use Rattle.std.proofs.Common.{rules}
use Rattle.ipc_kernel.proofs.PlaceCopies.{places_decides}
use Rattle.ipc_kernel.proofs.places.Places.is_same.Goals as goal

pub returns : goal.returns
returns c = search (rules, places_decides)
