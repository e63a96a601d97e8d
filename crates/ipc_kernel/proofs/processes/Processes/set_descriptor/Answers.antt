use Rattle.std.proofs.Common.{refl, ◌∙◌, rules}
use Rattle.ipc_kernel.proofs.CountLemmas.{held_queue_is_counted, room_for, counts_with_descriptor}
use Rattle.ipc_kernel.specs.declared.process.Descriptor.{Descriptor}
use Rattle.ipc_kernel.specs.Processes.{descriptor_of, descriptor_refers}
use Rattle.ipc_kernel.specs.Private.Counts.{indicator}
use Rattle.ipc_kernel.proofs.processes.Processes.set_descriptor.Goals as goal

pub forget_descriptor-requires : goal.forget_descriptor-requires
forget_descriptor-requires c = search (rules, held_queue_is_counted)

pub note_descriptor-requires-clause-room : goal.note_descriptor-requires-clause-room
note_descriptor-requires-clause-room c =
    room_for (λ (d : Descriptor). d.place) c.self.inside.tables.items c.self.inside.counts _ (λ k. indicator (descriptor_refers k (descriptor_of c.self.inside.tables.items c.args.pid c.args.mqd))) c.args.value c.self.invariant
    (λ k. rw (← c.forget_descriptor.ensures.counted k, c.descriptor-held.ensures.held, ← c.self.view_is) refl)

pub invariant_of-self : goal.invariant_of-self
invariant_of-self c =
    counts_with_descriptor c.self.inside.tables.items _ c.self.inside.counts c.forget_descriptor.new.counts _ c.args.pid c.args.mqd c.args.value c.self.invariant
    (rw (← c.self.view_is) at c.requires.process) c.requires.mqd (c.note_descriptor.auto.counts ∙ c.forget_descriptor.auto.counts)
    (λ k. rw (← c.forget_descriptor.ensures.counted k, c.descriptor-held.ensures.held, ← c.self.view_is) refl)
    c.note_descriptor.ensures.counted c.write_descriptor.ensures.held
