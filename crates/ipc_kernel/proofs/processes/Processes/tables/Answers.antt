use Rattle.std.proofs.Common.{ap, ◌∙◌}
use Rattle.ipc_kernel.specs.Processes.{is_referred}
use Rattle.ipc_kernel.proofs.CountLemmas.{referred_in_range}
use Rattle.ipc_kernel.proofs.processes.Processes.tables.Goals as goal

pub returns-clause-range : goal.returns-clause-range
returns-clause-range c i e = referred_in_range c.self.inside.tables.items c.self.inside.counts i c.self.invariant (ap (λ ps. is_referred ps i) c.self.view_is ∙ e)
