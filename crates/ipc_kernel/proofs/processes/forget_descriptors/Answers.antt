use Rattle.std.proofs.Common.{None, arith}
use Rattle.std.proofs.lemmas.List.Sums.{sum_by_more}
use Rattle.std.proofs.lemmas.List.{take_all}
use Rattle.ipc_kernel.specs.Private.Counts.{indicator}
use Rattle.ipc_kernel.specs.Processes.{descriptor_refers}
use Rattle.ipc_kernel.proofs.CountLemmas.{descriptor_left}
use Rattle.ipc_kernel.proofs.processes.forget_descriptors.Goals as goal

pub forget_descriptor-requires : goal.forget_descriptor-requires
forget_descriptor-requires c = record { noted = descriptor_left _ _ _ _ c.loop-descriptor-test.true c.loop-descriptor.invariant c.requires.noted }

pub loop-descriptor-preserved : goal.loop-descriptor-preserved
loop-descriptor-preserved c = λ k. omega (arith, sum_by_more (λ o. indicator (descriptor_refers k o)) c.args.descriptors.now c.loop-descriptor.descriptor-index None c.loop-descriptor-test.true, c.forget_descriptor.ensures.counted k, c.loop-descriptor.invariant k)

pub returns : goal.returns
returns c = record { counted = λ k. rw (take_all c.loop-descriptor.descriptor-index c.args.descriptors.now c.loop-descriptor-test.false) at (c.loop-descriptor.invariant k) }
