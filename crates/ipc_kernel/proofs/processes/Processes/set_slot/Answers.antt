use Rattle.std.proofs.Common.{refl, ◌∙◌, rules}
use Rattle.ipc_kernel.proofs.CountLemmas.{held_is_counted, room_for, counts_with_slot}
use Rattle.ipc_kernel.specs.declared.process.Slot.{Slot}
use Rattle.ipc_kernel.specs.Processes.{slot_of, slot_refers}
use Rattle.ipc_kernel.specs.Private.Counts.{indicator}
use Rattle.ipc_kernel.proofs.processes.Processes.set_slot.Goals as goal

pub forget_slot-requires : goal.forget_slot-requires
forget_slot-requires c = search (rules, held_is_counted)

pub note_slot-requires-clause-room : goal.note_slot-requires-clause-room
note_slot-requires-clause-room c =
    room_for (λ (s : Slot). s.place) c.self.inside.tables.items c.self.inside.counts _ (λ k. indicator (slot_refers k (slot_of c.self.inside.tables.items c.args.pid c.args.slot))) c.args.value c.self.invariant
    (λ k. rw (← c.forget_slot.ensures.counted k, c.slot-held.ensures.held, ← c.self.view_is) refl)

pub invariant_of-self : goal.invariant_of-self
invariant_of-self c =
    counts_with_slot c.self.inside.tables.items _ c.self.inside.counts c.forget_slot.new.counts _ c.args.pid c.args.slot c.args.value c.self.invariant
    (rw (← c.self.view_is) at c.requires.process) c.requires.slot (c.note_slot.auto.counts ∙ c.forget_slot.auto.counts)
    (λ k. rw (← c.forget_slot.ensures.counted k, c.slot-held.ensures.held, ← c.self.view_is) refl)
    c.note_slot.ensures.counted c.write_slot.ensures.held
