use Rattle.ipc_kernel.proofs.IndexLemmas.{indexed_with_semaphore}
use Rattle.ipc_kernel.proofs.places.Places.put_semaphore.Goals as goal
use Rattle.std.proofs.Common.{rules}

pub invariant_of-self-2 : goal.invariant_of-self-2
invariant_of-self-2 c = search (rules, indexed_with_semaphore, c.self.inside.places.items, c.self.invariant, c.requires.place, c.self.view_is, c.requires.empty, c.requires.absent, c.in_ok-put.ensures.ok, c.in_ok-kept.ensures.cases)
