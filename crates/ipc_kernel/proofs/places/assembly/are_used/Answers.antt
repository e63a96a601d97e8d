use Rattle.std.proofs.Common.{arith, rules}
use Rattle.ipc_kernel.proofs.AssemblyLemmas.{settled_more, settled_all}
use Rattle.ipc_kernel.proofs.places.assembly.are_used.Goals as goal

pub loop-at-init : goal.loop-at-init
loop-at-init c = record { below = λ k d lt in_range. absurd (omega arith) }

pub loop-at-preserved : goal.loop-at-preserved
loop-at-preserved c = search (rules, settled_more)

pub returns : goal.returns
returns c = record { settled = λ _. settled_all _ _ _ c.loop-at-test.false c.loop-at.invariant }
