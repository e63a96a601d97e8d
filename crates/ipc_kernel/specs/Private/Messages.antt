-- What a queue must be so that a message goes in or out, and how long one in an answer is.
use Rattle.std.specs.Prelude.{ℕ, ◌<◌, ◌≤◌, length, List}
use Rattle.ipc_objects.specs.Queue.{QueueState}
use Rattle.ipc_kernel.specs.declared.call.Answer.{Answer}
use Rattle.ipc_kernel.specs.declared.call.Answer.TheVariants.{Done}
use Rattle.ipc_kernel.specs.declared.call.Reply.TheVariants.{Message}

-- whether a queue takes one message more, of these words
abbrev pub HasRoomFor : List ℕ → QueueState → Type 0
HasRoomFor words q = (length q.messages < q.max_messages) × (length words ≤ q.message_size)

-- whether a queue has a message
abbrev pub HasMessage : QueueState → Type 0
HasMessage q = 0 < length q.messages

-- the number of words of a message in an answer
abbrev pub message_length : Answer → ℕ
message_length (Done (Message words prio)) = length words
message_length other = 0
