use Rattle.std.proofs.lemmas.Option.{IfSome_then}
use Rattle.ipc_store.proofs.OperandRows.{operand_by_handle}
use Rattle.ipc_store.proofs.kept.Kernels.operand.Goals as goal

pub returns-in-Some : goal.returns-in-Some
returns-in-Some c = record {
  operand = IfSome_then c.place_of.result c.place_of.ensures.place (λ i h k t at_kernel at_tables.
      operand_by_handle k t c.args.call.now c.in-Some.handle i c.in-Some.ensures.handle (h t at_tables));
}
