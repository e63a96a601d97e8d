use Rattle.std.proofs.Common.{◌≡◌, map, length, reverse}
use Rattle.lc3_asm.specs.Views.{seen_line}
use Rattle.lc3_warnings.specs.Private.Names.{is_among}
use Rattle.lc3_warnings.specs.Returns.{body, lost_in}
use Rattle.lc3_warnings.proofs.ReturnLemmas.{lost_with}
use Rattle.lc3_warnings.proofs.line_kinds.lost_in.Given as goal

-- what was found so far, with what is found in the lines that are left, is what is found in all
abbrev pub invariant-loop-next : goal.invariant-loop-next
invariant-loop-next l =
    lost_with l.profile l.writer (body (is_among l.entries) (seen_line l.below) (reverse (map seen_line l.rest)))
    ≡ lost_in l.profile (body (is_among l.entries) (seen_line l.line) (reverse (map seen_line l.above)))

abbrev pub decreases-loop-next : goal.decreases-loop-next
decreases-loop-next l = length l.rest
