use Rattle.ipc_kernel.proofs.IndexLemmas.{indexed_emptied}
use Rattle.ipc_kernel.proofs.places.Places.empty_unused.Goals as goal

pub invariant_of-self : goal.invariant_of-self
invariant_of-self c = indexed_emptied c.args.processes.now c.self.inside.places.items _ c.self.inside.queue_names c.self.inside.semaphore_names c.self.invariant c.empty_unused_in.ensures.emptied
