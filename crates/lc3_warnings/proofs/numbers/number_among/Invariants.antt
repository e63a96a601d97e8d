use Rattle.std.proofs.Common.{◌≡◌, map, drop}
use Rattle.lc3_asm.specs.Views.{seen_operand}
use Rattle.lc3_warnings.specs.Numbers.{number_among}
use Rattle.lc3_warnings.proofs.numbers.number_among.Given as goal

abbrev pub invariant-loop-i : goal.invariant-loop-i
invariant-loop-i l = number_among (map seen_operand (drop l.i l.operands)) ≡ number_among (map seen_operand l.operands)
