use Rattle.std.proofs.Common.{◌∙◌, ◌+◌, ◌++◌, sym, ap}
use Rattle.lc3_asm.specs.Faults.{numbered}
use Rattle.lc3_asm.specs.Addresses.{addresses}
use Rattle.lc3_asm.proofs.LayoutLemmas.{address_at}
use Rattle.lc3_asm.proofs.FaultLemmas.{labels-more}
use Rattle.lc3_asm.proofs.passes.push_label_faults.Goals as goal

pub loop-i-preserved : goal.loop-i-preserved
loop-i-preserved c =
    let lines = c.lines-lines.result.now in
    let places_are = c.places-places.ensures.value ∙ ap addresses (sym c.lines-lines.ensures.lines) in
    let at = address_at c.places-places.result.now lines c.loop-i.i places_are c.loop-i-test.true in
    labels-more c.args.reader.now lines c.loop-i.i _ c.index-lines-i.result _ c.args.faults.now.items c.loop-i.faults.items _ c.loop-i-test.true c.index-lines-i.is at
    (c.in_ok-push_numbered.ensures.added ∙ ap (λ k. c.loop-i.faults.items ++ numbered (c.loop-i.i + 1) k) c.in_ok-fault.ensures.value) c.loop-i.invariant
