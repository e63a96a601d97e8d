use Rattle.std.proofs.Common.{◌≡◌}
use Rattle.lc3_asm.specs.Faults.{reading_after, reading}
use Rattle.lc3_asm.specs.Views.{lines_if}
use Rattle.lc3_asm.proofs.TextLemmas.{left}
use Rattle.lc3_asm.proofs.passes.reading.Given as goal

abbrev pub invariant-loop-rest : goal.invariant-loop-rest
invariant-loop-rest l = reading_after l.reader (lines_if l.rest) ≡ reading l.source

abbrev pub decreases-loop-rest : goal.decreases-loop-rest
decreases-loop-rest l = left l.rest
