use Rattle.ipc_objects.proofs.QueueLemmas.{counted_received}
use Rattle.ipc_objects.proofs.queue.Queue.receive.Goals as goal

pub invariant_of-self : goal.invariant_of-self
invariant_of-self c = counted_received c.self.inside.max_messages c.self.inside.message_size c.self.inside.count c.pop_front-message.result c.self.inside.messages _ c.self.invariant c.pop_front-message.ensures.first
