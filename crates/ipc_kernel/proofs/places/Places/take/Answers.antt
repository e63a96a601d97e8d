use Rattle.ipc_kernel.proofs.IndexLemmas.{indexed_written}
use Rattle.ipc_kernel.proofs.places.Places.take.Goals as goal

pub invariant_of-self : goal.invariant_of-self
invariant_of-self c = indexed_written c.self.inside.places.items _ _ c.args.place _ _ c.self.invariant c.take.ensures.named c.index_mut.ensures.value
