-- Message queues (POSIX.1-2017, mq_send and mq_receive). A name in brackets is the page of POSIX.1-2017.
use Rattle.std.specs.Prelude.{ℕ, ◌<◌, ◌≤◌, nat_le, nat_lt, List, [], ◌∷◌, ◌++◌, length, drop, filter, All}
use Rattle.ipc_objects.specs.Limits.{mq_prio_max, mq_maxmsg_max, mq_msgsize_max}
use Rattle.ipc_objects.specs.declared.queue.Message.{Message}

-- what a queue is seen as: its messages are in the order in which they would be received
pub record QueueState : Type 0 where
  pub max_messages : ℕ
  pub message_size : ℕ
  pub messages : List Message

-- a message goes behind those of its priority or a greater one, and before those of a lesser one
abbrev pub after_send : Message → List Message → List Message
after_send m ms = filter (λ x. nat_le m.priority x.priority) ms ++ m ∷ filter (λ x. nat_lt x.priority m.priority) ms

-- a queue without messages, for at most so many, each of at most so many words
abbrev pub empty_queue : ℕ × ℕ → QueueState
empty_queue sizes = record { max_messages = sizes.0; message_size = sizes.1; messages = [] }

-- the queue with one message more, behind those of its priority or a greater one [mq_send]
abbrev pub with_message : ℕ → List ℕ → QueueState → QueueState
with_message prio words q = record q { messages = after_send (record { priority = prio; words = words }) q.messages }

-- the queue without the message that is first to be received [mq_receive]
abbrev pub without_first : QueueState → QueueState
without_first q = record q { messages = drop 1 q.messages }

-- from the front on the priority never rises
abbrev pub NeverRises : List Message → Type 0
NeverRises [] = Unit {0}
NeverRises (m ∷ ms) = All (λ x. x.priority ≤ m.priority) ms × NeverRises ms

-- the ranges of a queue's numbers, of its priorities and of its lengths, and the order of its messages
pub record IsShape (max size : ℕ) (messages : List Message) : Type 0 where
  pub max_at_least : 1 ≤ max
  pub max_at_most : max ≤ mq_maxmsg_max
  pub size_at_least : 1 ≤ size
  pub size_at_most : size ≤ mq_msgsize_max
  pub within : length messages ≤ max
  pub priorities : All (λ m. m.priority < mq_prio_max) messages
  pub sizes : All (λ m. length m.words ≤ size) messages
  pub ordered : NeverRises messages

-- each queue has them
abbrev pub IsQueue : QueueState → Type 0
IsQueue q = IsShape q.max_messages q.message_size q.messages
