use Rattle.ipc_kernel.proofs.IndexLemmas.{indexed_with_queue}
use Rattle.ipc_kernel.proofs.places.Places.put_queue.Goals as goal
use Rattle.std.proofs.Common.{rules}

pub invariant_of-self-2 : goal.invariant_of-self-2
invariant_of-self-2 c = search (rules, indexed_with_queue, c.self.inside.places.items, c.self.invariant, c.requires.place, c.self.view_is, c.requires.empty, c.requires.absent, c.in_ok-put.ensures.ok, c.in_ok-kept.ensures.cases)
