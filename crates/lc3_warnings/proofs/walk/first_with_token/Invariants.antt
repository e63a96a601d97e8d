use Rattle.std.proofs.Common.{◌≡◌, ◌≤◌, ◌+◌}
use Rattle.lc3_asm.specs.Views.{lines_if}
use Rattle.lc3_asm.proofs.TextLemmas.{left}
use Rattle.lc3_warnings.specs.Warnings.{first_with_token}
use Rattle.lc3_warnings.proofs.walk.first_with_token.Given as goal

abbrev pub invariant-loop-left : goal.invariant-loop-left
invariant-loop-left l = (first_with_token l.number (lines_if l.left) ≡ first_with_token l.behind (lines_if l.rest)) × (l.number + left l.left ≤ l.behind + left l.rest)

abbrev pub decreases-loop-left : goal.decreases-loop-left
decreases-loop-left l = left l.left
