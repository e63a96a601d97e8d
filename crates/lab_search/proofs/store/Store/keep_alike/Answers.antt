use Rattle.ipc_store.proofs.Alikes.{alike_itself}
use Rattle.lab_search.proofs.store.Store.keep_alike.Goals as goal

pub returns-clause-kernel : goal.returns-clause-kernel
returns-clause-kernel c = (c.args.kernel.now, c.in_ok-number-2.ensures.kernel, alike_itself c.args.kernel.now, c.in_ok-number-2.ensures.settled)
