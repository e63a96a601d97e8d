use Rattle.std.proofs.Common.{◌≡◌, ◌∙◌, ◌+◌, ◌++◌, sym, ap, get_or, length, refl, rules}
use Rattle.lc3_asm.specs.Texts.{row}
use Rattle.lc3_asm.proofs.LayoutLemmas.{address_at, laid-more, laid-fault}
use Rattle.lc3_asm.proofs.passes.layout.Goals as goal

pub returns-in-Err-Fault : goal.returns-in-Err-Fault
returns-in-Err-Fault c =
    let at = address_at c.args.places.now c.args.lines.now c.loop-i.i c.requires.places c.loop-i-test.true in
    let fault = rw c.in-Err-Fault.field-0-is at c.in-Err-Fault.ensures.exact in
    record {
      exact =
          laid-fault c.args.symbols.now c.args.lines.now c.loop-i.i _ c.index-lines-i.result (get_or c.args.places.now c.loop-i.i 0) c.loop-i-test.true c.index-lines-i.is at c.in-Err-Fault.kind c.loop-i.words.items c.loop-i.rows.items fault c.loop-i.invariant
          ∙ rw c.in-Err-Fault.field-0-is refl;
    }

pub loop-i-preserved : goal.loop-i-preserved
loop-i-preserved c =
    let at = address_at c.args.places.now c.args.lines.now c.loop-i.i c.requires.places c.loop-i-test.true in
    let count : c.len.result ≡ length c.in-Ok.made.items = search rules in
    let pushed = c.in_ok-push_row-in-Ok.ensures.added ∙ ap (λ n. c.loop-i.rows.items ++ row (c.loop-i.i + 1) (get_or c.args.places.now c.loop-i.i 0) n) count in
    let extended = c.in_ok-extend_from_slice-in-Ok.ensures.items ∙ ap (λ u. c.loop-i.words.items ++ u) c.deref.ensures.value in
    laid-more c.args.symbols.now c.args.lines.now c.loop-i.i _ c.index-lines-i.result (get_or c.args.places.now c.loop-i.i 0) c.loop-i-test.true c.index-lines-i.is at
    c.in-Ok.made.items c.loop-i.words.items c.extend_from_slice.new.self.items c.loop-i.rows.items c.push_row.new.rows.items (sym c.in-Ok.ensures.exact) extended pushed c.loop-i.invariant
