use Rattle.std.proofs.Common.{rules}
use Rattle.lc3_asm.proofs.OperandSteps.{with_front}
use Rattle.lc3_asm.proofs.FieldSteps.{resolved-more, resolved-end}
use Rattle.lc3_asm.proofs.assembled.resolved_fields.Goals as goal

pub loop-i-preserved : goal.loop-i-preserved
loop-i-preserved c = search (rules, resolved-more)

pub returns : goal.returns
returns c = search (rules, with_front, resolved-end)
