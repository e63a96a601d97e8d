use Rattle.ipc_kernel.proofs.IndexLemmas.{indexed_without_semaphore}
use Rattle.ipc_kernel.proofs.places.Places.unname_semaphore.Goals as goal
use Rattle.std.proofs.Common.{rules}

pub invariant_of-self : goal.invariant_of-self
invariant_of-self c = search (rules, indexed_without_semaphore, c.self.inside.places.items, c.self.invariant, c.self.view_is)
