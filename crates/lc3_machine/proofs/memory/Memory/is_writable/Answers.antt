use Rattle.std.proofs.Common.{rules}
use Rattle.lc3_machine.proofs.PageLemmas.{IsReadyAt-made, made-IsReadyAt}
use Rattle.lc3_machine.proofs.memory.Memory.is_writable.Goals as goal

pub returns-then-not-is_made : goal.returns-then-not-is_made
returns-then-not-is_made c = search (rules, made-IsReadyAt)

pub loop-k-preserved : goal.loop-k-preserved
loop-k-preserved c = search (rules, IsReadyAt-made)
