use Rattle.std.proofs.lemmas.Result.{IfOk-weaker}
use Rattle.ipc_store.proofs.KeptLemmas.{kernel_of_parts, kernel_found}
use Rattle.ipc_store.proofs.kept.Kernels.get.Goals as goal

pub returns-clause-kept : goal.returns-clause-kept
returns-clause-kept c =
    let objects = rw c.in-Some-2.is at c.in_ok-objects.ensures.equal in
    let tables = rw c.in-Some-3.is at c.in_ok-tables.ensures.equal in
    rw (← c.self.view_is) (IfOk-weaker c.assemble.result _ _ (λ found is. kernel_found found _ _
    (kernel_of_parts c.self.inside.objects c.self.inside.tables c.self.inside.rows c.args.kernel c.in-Some.objects.now c.in-Some.tables.now c.in-Some-2.objects.items c.in-Some-3.tables.items
    c.in-Some.ensures.row objects tables) is) c.assemble.ensures.kernel)
