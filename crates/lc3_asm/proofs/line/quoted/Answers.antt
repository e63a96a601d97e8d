use Rattle.std.proofs.Common.{rules}
use Rattle.lc3_asm.proofs.TokenSteps.{step_escaped, step_backslash, step_other}
use Rattle.lc3_asm.proofs.line.quoted.Goals as goal
use Rattle.lc3_asm.proofs.line.quoted.Goals.{then-escaped, else-escaped+else-byte-eq34+then-byte-eq92, else-escaped+else-byte-eq34+else-byte-eq92}

pub loop-i-preserved : goal.loop-i-preserved
loop-i-preserved c = search (rules, then-escaped, step_escaped, else-escaped+else-byte-eq34+then-byte-eq92, step_backslash, else-escaped+else-byte-eq34+else-byte-eq92, step_other)
