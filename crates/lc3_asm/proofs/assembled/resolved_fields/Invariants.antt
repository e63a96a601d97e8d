use Rattle.std.proofs.Common.{◌≡◌, map, drop}
use Rattle.lc3_table.specs.Meaning.{resolved_fields}
use Rattle.lc3_asm.specs.Texts.{value}
use Rattle.lc3_asm.specs.Views.{seen_operand}
use Rattle.lc3_asm.proofs.OperandSteps.{with_front}
use Rattle.lc3_asm.proofs.assembled.resolved_fields.Given as goal

abbrev pub invariant-loop-i : goal.invariant-loop-i
invariant-loop-i l =
    with_front l.found.items (resolved_fields (value l.symbols) l.address (drop l.i l.forms) (map seen_operand (drop l.i l.operands)))
    ≡ resolved_fields (value l.symbols) l.address l.forms (map seen_operand l.operands)
