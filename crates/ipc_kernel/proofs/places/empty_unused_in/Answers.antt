use Rattle.std.proofs.Common.{refl, arith, rules}
use Rattle.ipc_kernel.proofs.PlaceLemmas.{emptied_more, emptied_all}
use Rattle.ipc_kernel.proofs.places.empty_unused_in.Goals as goal

pub loop-i-init : goal.loop-i-init
loop-i-init c = record { same_length = refl; below = λ k d lt in_range. absurd (omega arith); above = λ k d le. refl }

pub loop-i-preserved : goal.loop-i-preserved
loop-i-preserved c = search (rules, emptied_more)

pub returns : goal.returns
returns c = record { emptied = emptied_all _ _ _ c.loop-i.i (omega arith) c.loop-i.invariant }
