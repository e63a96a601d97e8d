use Rattle.std.proofs.Common.{◌≡◌, true, false, arith}
use Rattle.std.proofs.lemmas.Bool.{false≢true}
use Rattle.lc3_asm.specs.Texts.{labels, words_of_lines}
use Rattle.lc3_asm.specs.Private.Layouts.{AreLaid}
use Rattle.lc3_asm.proofs.PlaceLemmas.{laid_below}
use Rattle.lc3_asm.proofs.passes.assemble.Goals as goal

pub unreachable-requires : goal.unreachable-requires
unreachable-requires c =
    let read = c.in_ok-reader.reader.read in
    let laid : AreLaid c.in_ok-words.words.items c.in_ok-words.rows.items (words_of_lines (labels c.in_ok-reader.reader.read) c.in_ok-reader.reader.read) =
    rw (← c.symbols.ensures.value, ← c.lines.ensures.lines) c.in_ok-words.ensures.exact in
    let small = laid_below c.args.source.now read c.in_ok-words.words.items c.in_ok-words.rows.items c.in_ok-reader.ensures.read laid in
    let ok = c.new.ensures.fits.1 (omega (arith, small, c.origin.ensures.value)) in
    let no : false ≡ true = rw c.in-Err.is at ok in
    absurd (false≢true no)
