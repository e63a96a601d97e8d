use Rattle.std.proofs.Common.{◌≡◌, arith}
use Rattle.ipc_kernel.proofs.IndexLemmas.{indexed_empty}
use Rattle.ipc_kernel.proofs.places.Places.new.Goals as goal

pub invariant_of-result : goal.invariant_of-result
invariant_of-result c =
    let full : c.loop.counter ≡ 64 = omega arith in
    rw (c.new-queue_names.ensures.empty, c.new-semaphore_names.ensures.empty) (indexed_empty c.loop.places.items (rw full at c.loop.invariant))
