use Rattle.std.proofs.Common.{sym, ◌∙◌}
use Rattle.ipc_store.proofs.KeptLemmas.{of_kernel}
use Rattle.ipc_store.proofs.OperandRows.{padded_named}
use Rattle.ipc_store.proofs.kept.Kernels.are_named.Goals as goal

pub returns-in-Some : goal.returns-in-Some
returns-in-Some c = record {
  named = λ yes. rw (← c.self.view_is) (of_kernel c.self.inside.objects c.self.inside.tables c.self.inside.rows c.args.kernel _ _ c.in-Some.ensures.row
      (padded_named c.self.inside.objects c.in-Some.objects.now (sym c.are_named.ensures.named ∙ yes)));
}
