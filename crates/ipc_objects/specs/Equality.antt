-- Which queues `==` tells to be equal.
use Rattle.std.specs.Prelude.{◌==◌, Bool}
use Rattle.std.specs.Ordering.{on, eq_of_both}
use Rattle.std.specs.Cmp.{IsEquivalence, and_equiv, on_equiv, nat_eq_equiv}
use Rattle.std.specs.Cmp.Lexicographic.{pointwise, lists_equiv, nat_list_eq_equiv}
use Rattle.ipc_objects.specs.declared.queue.Message.{Message}
use Rattle.ipc_objects.specs.Queue.{QueueState}

-- whether two messages have the same priority and the same words
abbrev pub message_eq : Message → Message → Bool
message_eq = eq_of_both (on (λ m. m.priority) ◌==◌) (on (λ m. m.words) (pointwise ◌==◌))

-- whether two queues have the same attributes and the same messages
abbrev pub queue_eq : QueueState → QueueState → Bool
queue_eq = eq_of_both (on (λ q. q.max_messages) ◌==◌) (eq_of_both (on (λ q. q.message_size) ◌==◌) (on (λ q. q.messages) (pointwise message_eq)))

message_eq_equiv : IsEquivalence message_eq
message_eq_equiv = and_equiv (on_equiv (λ m. m.priority) nat_eq_equiv) (on_equiv (λ m. m.words) nat_list_eq_equiv)

-- each queue is equal to itself, and equal ones are equal to the same
pub queue_eq_equiv : IsEquivalence queue_eq
queue_eq_equiv = and_equiv (on_equiv (λ q. q.max_messages) nat_eq_equiv) (and_equiv (on_equiv (λ q. q.message_size) nat_eq_equiv) (on_equiv (λ q. q.messages) (lists_equiv message_eq_equiv)))
