use Rattle.std.proofs.Common.{◌≡◌, map, drop}
use Rattle.std.specs.List.{list_any}
use Rattle.lc3_asm.specs.Views.{seen_operand}
use Rattle.lc3_warnings.specs.Returns.{is_r7}
use Rattle.lc3_warnings.proofs.line_kinds.any_r7.Given as goal

abbrev pub invariant-loop-i : goal.invariant-loop-i
invariant-loop-i l = list_any is_r7 (map seen_operand (drop l.i l.operands)) ≡ list_any is_r7 (map seen_operand l.operands)
