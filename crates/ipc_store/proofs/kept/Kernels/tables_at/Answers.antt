use Rattle.std.proofs.Common.{sym}
use Rattle.ipc_store.proofs.KeptLemmas.{of_kernel, tables_there}
use Rattle.ipc_store.proofs.kept.Kernels.tables_at.Goals as goal

pub returns-clause-tables : goal.returns-clause-tables
returns-clause-tables c = rw (← c.self.view_is) (of_kernel c.self.inside.objects c.self.inside.tables c.self.inside.rows c.args.kernel _ _ c.in_ok-tables.ensures.row
    (tables_there c.self.inside.objects c.self.inside.tables c.in_ok-tables.field-0-0.now c.in_ok-tables.tables.now c.args.pid c.in_ok-number.number
    (c.self.invariant c.args.kernel _ c.in_ok-tables.ensures.row) (sym c.in_ok-number.ensures.number)))
