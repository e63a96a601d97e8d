-- The message that mq_receive takes.
use Rattle.std.proofs.Common.{◌≡◌, ℕ, ◌≤◌, List, ◌∷◌, length, Some, slice_set, drop, All, IsSomeAnd, rules}
use Rattle.ipc_objects.specs.declared.queue.Message.{Message}
use Rattle.ipc_objects.specs.Queue.{QueueState, IsQueue, without_first}
use Rattle.std.proofs.lemmas.List.Elements.{All-head}
use Rattle.ipc_kernel.specs.declared.place.Place.{Place}
use Rattle.ipc_kernel.specs.declared.call.Reply.TheVariants.{Message as received}
use Rattle.ipc_kernel.specs.declared.call.Answer.TheVariants.{Done}
use Rattle.ipc_kernel.specs.Places.{place_at, queue_in, with_queue}
use Rattle.ipc_kernel.specs.Private.Messages.{HasMessage, message_length}
use Rattle.ipc_kernel.specs.Private.Decisions.{reply_with_first, outcome_of}
use Rattle.ipc_kernel.specs.Outcomes.{queue_at, completion, with_queue_at}
use Rattle.ipc_kernel.specs.declared.kernel.decision.Decision.TheVariants.{Receives}
use Rattle.ipc_kernel.proofs.IndexLemmas.{some_of}
use Rattle.ipc_kernel.proofs.KernelLemmas.{done_settled, settled_with_queue}
use Rattle.ipc_kernel.specs.Kernel.{KernelState, IsSettled}

-- the message that is taken, and what is left, where the first message is known
pub received_first : (k : KernelState) (place : ℕ) (first : Message) (new : List Place) → IsSettled k → IsSomeAnd (queue_in (place_at k.places place)) HasMessage → ((q : QueueState) → queue_in (place_at k.places place) ≡ Some q → q.messages ≡ first ∷ drop 1 q.messages)
    → ((q : QueueState) → queue_in (place_at k.places place) ≡ Some q → new ≡ slice_set k.places place (with_queue (without_first q) (place_at k.places place)))
    → (Done (received first.words first.priority), record k { places = new }) ≡ completion (with_queue_at k place (without_first (queue_at k place))) (reply_with_first (queue_at k place).messages)
received_first k place first new s some head rest = search (rules, some_of, done_settled, settled_with_queue)

-- no place is to be emptied then
pub settled_received : (k : KernelState) (place : ℕ) (new : List Place) → IsSettled k → IsSomeAnd (queue_in (place_at k.places place)) HasMessage
    → ((q : QueueState) → queue_in (place_at k.places place) ≡ Some q → new ≡ slice_set k.places place (with_queue (without_first q) (place_at k.places place))) → IsSettled (record k { places = new })
settled_received k place new s some rest =
    let found = some_of (queue_in (place_at k.places place)) HasMessage some in
    rw (rest found.0 found.1) (settled_with_queue k place (without_first found.0) HasMessage some s)

shorter : (q : QueueState) (ms : List Message) (len : ℕ) → All (λ m. length m.words ≤ q.message_size) ms → q.message_size ≤ len → message_length (Done (reply_with_first ms)) ≤ len
shorter q x len all fits = search (rules, All-head)

-- the first message of a queue is no longer than the queue allows
pub first_short : (k : KernelState) (p place len : ℕ) (q : QueueState) → queue_in (place_at k.places place) ≡ Some q → IsQueue q → q.message_size ≤ len → message_length (outcome_of k p (Receives place)).0 ≤ len
first_short k p place len q e ranges fits = rw e (shorter q q.messages len ranges.sizes fits)
