use Rattle.std.proofs.Common.{◌≡◌, map, drop}
use Rattle.lc3_asm.specs.Views.{seen_line}
use Rattle.lc3_warnings.specs.Flows.{next_from}
use Rattle.lc3_warnings.proofs.flow.next_from.Given as goal

abbrev pub invariant-loop-i : goal.invariant-loop-i
invariant-loop-i l = next_from l.i (map seen_line (drop l.i l.lines)) ≡ next_from l.behind (map seen_line (drop l.behind l.lines))
