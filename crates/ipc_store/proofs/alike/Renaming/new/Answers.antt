use Rattle.std.proofs.Common.{arith}
use Rattle.ipc_store.proofs.Exchanges.{identity_permutes}
use Rattle.ipc_store.proofs.alike.Renaming.new.Goals as goal

pub returns : goal.returns
returns c = record { permutation = identity_permutes c.loop-place.to (λ k h. c.loop-place.invariant.1 k (omega arith)) }
