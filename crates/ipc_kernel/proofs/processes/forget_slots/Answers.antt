use Rattle.std.proofs.Common.{None, arith}
use Rattle.std.proofs.lemmas.List.Sums.{sum_by_more}
use Rattle.std.proofs.lemmas.List.{take_all}
use Rattle.ipc_kernel.specs.Private.Counts.{indicator}
use Rattle.ipc_kernel.specs.Processes.{slot_refers}
use Rattle.ipc_kernel.proofs.CountLemmas.{slot_left}
use Rattle.ipc_kernel.proofs.processes.forget_slots.Goals as goal

pub forget_slot-requires : goal.forget_slot-requires
forget_slot-requires c = record { noted = slot_left _ _ _ _ c.loop-slot-test.true c.loop-slot.invariant c.requires.noted }

pub loop-slot-preserved : goal.loop-slot-preserved
loop-slot-preserved c = λ k. omega (arith, sum_by_more (λ o. indicator (slot_refers k o)) c.args.slots.now c.loop-slot.slot-index None c.loop-slot-test.true, c.forget_slot.ensures.counted k, c.loop-slot.invariant k)

pub returns : goal.returns
returns c = record { counted = λ k. rw (take_all c.loop-slot.slot-index c.args.slots.now c.loop-slot-test.false) at (c.loop-slot.invariant k) }
