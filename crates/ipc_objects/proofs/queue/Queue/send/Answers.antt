use Rattle.ipc_objects.proofs.QueueLemmas.{counted_sent}
use Rattle.ipc_objects.proofs.queue.Queue.send.Goals as goal

pub invariant_of-self : goal.invariant_of-self
invariant_of-self c =
    counted_sent c.self.inside.max_messages c.self.inside.message_size c.self.inside.count _ c.self.inside.messages _ c.self.invariant (rw (← c.self.view_is) at c.requires.room) c.requires.priority
    (rw (← c.self.view_is) at c.requires.size) c.in-Ok.ensures.ok
