use Rattle.ipc_kernel.proofs.IndexLemmas.{indexed_written}
use Rattle.ipc_kernel.proofs.places.Places.receive.Goals as goal

pub invariant_of-self : goal.invariant_of-self
invariant_of-self c = indexed_written c.self.inside.places.items _ _ c.args.place _ _ c.self.invariant c.receive.ensures.named c.index_mut.ensures.value
