use Rattle.std.proofs.Common.{rules}
use Rattle.lc3_machine.specs.Memory.{IsReadyAt}
use Rattle.lc3_machine.proofs.PageLemmas.{same-joined, StaysReady-set, made-more}
use Rattle.lc3_machine.proofs.memory.Memory.reserve.Goals as goal

pub loop-i-preserved : goal.loop-i-preserved
loop-i-preserved c = search (rules, same-joined, StaysReady-set, made-more)

pub returns-clause-ok : goal.returns-clause-ok
unfolding IsReadyAt
returns-clause-ok c = search rules
