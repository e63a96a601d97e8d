use Rattle.std.proofs.Common.{sym, ◌∙◌}
use Rattle.ipc_store.proofs.LowKernels.{all_low}
use Rattle.ipc_store.proofs.kept.Kernels.are_low.Goals as goal

pub returns : goal.returns
returns c = record { low = λ is i k at. all_low c.self.inside.objects c.self.inside.tables c.self.inside.rows i k (sym c.are_low.ensures.low ∙ is) (rw (← c.self.view_is) at at) }
