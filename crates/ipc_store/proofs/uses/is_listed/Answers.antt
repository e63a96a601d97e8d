use Rattle.std.proofs.Common.{Some, ap, sym, ◌∙◌}
use Rattle.std.proofs.lemmas.Option.{slice_get-get_or}
use Rattle.ipc_store.proofs.uses.is_listed.Goals as goal

pub returns-then-is : goal.returns-then-is
returns-then-is c = record {
  listed = λ yes. (c.loop-it.it-index, slice_get-get_or c.args.uses.now c.loop-it.it-index c.it-item.result c.loop-it-test.true ∙ ap (λ x. Some x) (sym c.it-item.is ∙ c.is.ensures.same c.if-is.true));
}
