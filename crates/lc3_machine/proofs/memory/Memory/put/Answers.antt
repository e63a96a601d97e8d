use Rattle.std.proofs.Common.{rules, Result, IsOk, OnOk}
use Rattle.lc3_machine.proofs.MemoryLemmas.{written-none, written-more}
use Rattle.lc3_machine.proofs.memory.Memory.put.Goals as goal

ok_fact : {T E : Type 0} (P : Type 0) → (r : Result T E) → IsOk r → OnOk r P → P
ok_fact x y is_ok fact = search rules

pub loop-k-init : goal.loop-k-init
loop-k-init c = search (rules, written-none)

pub loop-k-preserved : goal.loop-k-preserved
loop-k-preserved c = search (rules, ok_fact, written-more)
