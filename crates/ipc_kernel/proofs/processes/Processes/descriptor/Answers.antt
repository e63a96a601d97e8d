use Rattle.std.proofs.Common.{rules}
use Rattle.ipc_kernel.proofs.CountLemmas.{queue_place_in_range}
use Rattle.ipc_kernel.proofs.ProcessLemmas.{process_at_read}
use Rattle.ipc_kernel.proofs.processes.Processes.descriptor.Goals as goal

pub returns-clause-place : goal.returns-clause-place
returns-clause-place c =
    let h = rw (← c.self.view_is) at c.requires.process in
    queue_place_in_range c.self.inside.tables.items c.self.inside.counts c.args.pid c.args.mqd c.held_at.result c.self.invariant h
    (rw (process_at_read c.self.inside.tables.items c.args.pid c.index-process.result.now h c.index-process.ensures) c.held_at.ensures.held) (search rules)
