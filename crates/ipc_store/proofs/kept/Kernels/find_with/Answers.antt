use Rattle.std.proofs.Common.{refl}
use Rattle.ipc_store.proofs.KeptLemmas.{kernel_changed}
use Rattle.ipc_store.proofs.kept.Kernels.find_with.Goals as goal

pub returns : goal.returns
returns c = record {
  kept = λ k o t at_kernel at_object at_tables.
      rw (← c.self.view_is)
      (kernel_changed c.self.inside.objects c.self.inside.tables c.self.inside.rows c.self.inside.rows c.in_ok-objects.objects.now c.in_ok-objects.processes.now _ _
      c.args.kernel c.in_ok-number.number c.args.place c.args.object c.args.pid c.args.tables o t k c.in_ok-objects.ensures.row (rw (← c.self.view_is) at at_kernel)
      c.in_ok-number.ensures.range (rw (← c.self.view_is) at at_object) (rw (← c.self.view_is) at at_tables) refl refl c.in_ok-number.ensures.found);
}
