use Rattle.std.proofs.Common.{arith, refl, sym}
use Rattle.ipc_store.proofs.KeptLemmas.{of_kernel}
use Rattle.ipc_store.proofs.OperandRows.{opened_there}
use Rattle.ipc_store.proofs.kept.Kernels.opened.Goals as goal

pub returns : goal.returns
returns c = record {
  place = rw (← c.self.view_is) (of_kernel c.self.inside.objects c.self.inside.tables c.self.inside.rows c.args.kernel _ _ c.in_ok-objects.ensures.row
      (opened_there c.args.kind c.self.inside.objects c.in_ok-objects.objects.now c.args.name.now _ _ c.opened-place.result refl refl (sym c.opened-place.ensures.place)
      (omega (arith, c.if-place-ge-OBJECT_PLACES.false))));
}
