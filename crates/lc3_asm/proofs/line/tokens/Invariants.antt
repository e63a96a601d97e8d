use Rattle.std.proofs.Common.{◌≡◌, ◌++◌, length, map}
use Rattle.lc3_table.specs.Tokens.{tokens}
use Rattle.lc3_asm.specs.Views.{token_of}
use Rattle.lc3_asm.proofs.line.tokens.Given as goal

abbrev pub invariant-loop-token : goal.invariant-loop-token
invariant-loop-token l = map token_of l.found.items ++ tokens l.rest ≡ tokens l.line

abbrev pub decreases-loop-token : goal.decreases-loop-token
decreases-loop-token l = length l.rest
