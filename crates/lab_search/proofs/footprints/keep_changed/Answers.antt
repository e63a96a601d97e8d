use Rattle.std.proofs.lemmas.Option.{IfSome_then}
use Rattle.ipc_kernel.specs.Operands.{with_operand}
use Rattle.ipc_store.proofs.Alikes.{alike_itself}
use Rattle.lab_search.proofs.Growths.{kept_more}
use Rattle.lab_search.proofs.footprints.keep_changed.Goals as goal

pub returns-in-Some-clause-alike : goal.returns-in-Some-clause-alike
returns-in-Some-clause-alike c k o x at object tables settled =
    let there = with_operand k c.args.mover.pid c.args.place o x in
    (there, c.in-Some.ensures.kept k o x at object tables, alike_itself there, settled)

pub returns-in-Some-2-clause-alike : goal.returns-in-Some-2-clause-alike
returns-in-Some-2-clause-alike c k o x at object tables settled =
    let there = with_operand k c.args.mover.pid c.args.place o x in
    (there, (rw c.in-Some-2.is at c.in_ok-kernel.ensures.kept) k o x at object tables, alike_itself there, settled)

pub returns-clause-grows : goal.returns-clause-grows
returns-clause-grows c = kept_more c.args.kernels.now c.keep_with.new.self c.keep_with_new.new.self c.in_ok-kernel.ensures.grows c.in_ok-kept.ensures.grows

pub returns-clause-alike : goal.returns-clause-alike
returns-clause-alike c =
    let g = c.in_ok-kernel.ensures.grows in
    IfSome_then c.in_ok-kept.kept c.in_ok-kept.ensures.alike (λ i h k o x at object tables settled.
    h k o x (g.kernels c.args.mover.kernel k at) (g.objects c.args.object o object) (g.tables c.args.tables x tables) settled)
