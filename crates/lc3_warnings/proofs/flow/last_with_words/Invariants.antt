use Rattle.std.proofs.Common.{◌≡◌, map, length, reverse}
use Rattle.lc3_asm.specs.Views.{seen_line}
use Rattle.lc3_warnings.specs.Flows.{first_with_words}
use Rattle.lc3_warnings.proofs.flow.last_with_words.Given as goal

abbrev pub invariant-loop-last : goal.invariant-loop-last
invariant-loop-last l = first_with_words (reverse (map seen_line l.rest)) ≡ first_with_words (reverse (map seen_line l.lines))

abbrev pub decreases-loop-last : goal.decreases-loop-last
decreases-loop-last l = length l.rest
