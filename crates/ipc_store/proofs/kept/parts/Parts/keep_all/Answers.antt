use Rattle.std.proofs.Common.{Some, ap, ◌∙◌}
use Rattle.ipc_store.proofs.NumberLemmas.{kept_more}
use Rattle.ipc_store.proofs.kept.parts.Parts.keep_all.Goals as goal

pub loop-part-preserved : goal.loop-part-preserved
loop-part-preserved g c = (
  rw c.in_ok-push.ensures.items (kept_more c.loop-part.self c.keep.new.self c.loop-part.numbers.items _ c.loop-part.part-index c.in_ok-keep.field-0 c.part-item.result c.keep.ensures.grows
      c.loop-part-test.true c.loop-part.invariant.0 (c.in_ok-keep.ensures.kept ∙ ap Some c.part-item.is)),
  λ i x e. c.keep.ensures.grows i x (c.loop-part.invariant.1 i x e),
)
