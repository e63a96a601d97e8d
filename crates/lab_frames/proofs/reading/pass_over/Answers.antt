use Rattle.std.proofs.Common.{◌++◌, arith}
use Rattle.std.proofs.KnownBytes.{Consumes-trans}
use Rattle.std.proofs.lemmas.List.{length-append}
use Rattle.lab_frames.proofs.reading.pass_over.Goals as goal

pub loop-left-preserved : goal.loop-left-preserved
loop-left-preserved g c = (
  c.loop-left.invariant.0 ++ c.in_ok-take_body.field-0.items,
  Consumes-trans _ _ _ _ _ c.loop-left.invariant.1 c.in_ok-take_body.ensures.bytes,
  grind (arith, c.loop-left.invariant.2, length-append c.loop-left.invariant.0 c.in_ok-take_body.field-0.items, c.in_ok-take_body.ensures.count, c.len.ensures),
)
