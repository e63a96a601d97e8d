use Rattle.std.proofs.Common.{map, take}
use Rattle.lc3_asm.specs.Texts.{words_of_lines}
use Rattle.lc3_asm.specs.Views.{seen_line}
use Rattle.lc3_asm.specs.Private.Layouts.{AreLaid}
use Rattle.lc3_asm.proofs.passes.layout.Given as goal

abbrev pub invariant-loop-i : goal.invariant-loop-i
invariant-loop-i l = AreLaid l.words.items l.rows.items (words_of_lines l.symbols (map seen_line (take l.i l.lines)))
