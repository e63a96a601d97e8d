use Rattle.std.proofs.Common.{◌+◌, ◌++◌, drop, arith, refl, sym, ap, ◌∙◌, string_bytes}
use Rattle.lc3_table.specs.Text.{line_text, lines_from}
use Rattle.lc3_table.proofs.Lines.{lines_from-step, lines_from-end}
use Rattle.lc3_table.proofs.disassembly.image_text.Goals as goal

pub loop-i-preserved : goal.loop-i-preserved
unfolding line_text
loop-i-preserved c =
    ap (λ bytes. bytes ++ lines_from (c.origin-origin.result + (c.loop-i.i + 1)) (drop (c.loop-i.i + 1) c.words-word-items.result.now)) c.in_ok-write.ensures.bytes
    ∙ lines_from-step c.origin-origin.result c.loop-i.i c.words-word-items.result.now (string_bytes c.loop-i.text) (omega arith)
    ∙ c.loop-i.invariant

pub returns : goal.returns
returns c =
    record {
      text =
          sym (lines_from-end c.origin-origin.result c.loop-i.i c.words-word-items.result.now (string_bytes c.loop-i.text) (omega arith))
          ∙ c.loop-i.invariant
          ∙ rw (c.origin-origin.ensures.value, c.words-word-items.ensures.value) refl;
    }
