use Rattle.std.proofs.Common.{sym, ap, ◌∙◌, is_some, arith}
use Rattle.ipc_store.proofs.OperandRows.{named_there}
use Rattle.ipc_store.proofs.KeptLemmas.{no_kernel, of_kernel}
use Rattle.ipc_store.proofs.kept.Kernels.has.Goals as goal
use Rattle.std.proofs.lemmas.Grind.{common_steps}

pub returns-in-Some : goal.returns-in-Some
returns-in-Some c = record {
  named = rw (← c.self.view_is) (of_kernel c.self.inside.objects c.self.inside.tables c.self.inside.rows c.args.kernel _ _ c.in-Some.ensures.row
      (c.is_some.ensures ∙ ap is_some (c.place_named.ensures.found ∙ sym (named_there c.args.kind c.self.inside.objects c.in-Some.objects.now c.args.name.now))));
}

pub returns-in-None : goal.returns-in-None
returns-in-None c = grind (arith, common_steps, no_kernel)
