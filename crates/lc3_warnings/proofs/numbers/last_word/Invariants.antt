use Rattle.std.proofs.Common.{◌≡◌, [], length}
use Rattle.lc3_table.specs.Tokens.{tokens}
use Rattle.lc3_warnings.specs.Numbers.{last_word}
use Rattle.lc3_warnings.proofs.numbers.last_word.Given as goal

abbrev pub invariant-loop-token : goal.invariant-loop-token
invariant-loop-token l = last_word l.last (tokens l.rest) ≡ last_word [] (tokens l.bytes)

abbrev pub decreases-loop-token : goal.decreases-loop-token
decreases-loop-token l = length l.rest
