use Rattle.std.proofs.Common.{arith}
use Rattle.ipc_store.proofs.ArrangedRows.{all_moved}
use Rattle.ipc_store.proofs.kept.tables.are_moved.Goals as goal

pub returns : goal.returns
returns c = record {
  moved = λ _. all_moved c.args.numbers.now c.args.moved.now c.args.at c.args.number c.args.renaming.now c.requires.permutation
      (omega (arith, c.if-at-count.false)) (omega (arith, c.if-numbers-count.false)) (omega (arith, c.if-count-gt-OBJECT_PLACES.false)) (λ i h. c.loop-place.invariant i (omega (arith, h, c.loop-place-test.false)));
}
