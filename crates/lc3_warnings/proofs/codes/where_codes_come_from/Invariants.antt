use Rattle.std.proofs.Common.{◌≡◌, map, length, reverse}
use Rattle.lc3_asm.specs.Views.{seen_line}
use Rattle.lc3_warnings.specs.Private.Names.{is_among}
use Rattle.lc3_warnings.specs.Codes.{where_codes_come_from}
use Rattle.lc3_warnings.proofs.codes.where_codes_come_from.Given as goal

abbrev pub invariant-loop-next : goal.invariant-loop-next
invariant-loop-next l =
    where_codes_come_from (is_among l.named) (seen_line l.below) (reverse (map seen_line l.rest))
    ≡ where_codes_come_from (is_among l.named) (seen_line l.line) (reverse (map seen_line l.above))

abbrev pub decreases-loop-next : goal.decreases-loop-next
decreases-loop-next l = length l.rest
