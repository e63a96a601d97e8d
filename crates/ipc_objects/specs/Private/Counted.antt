-- A queue that keeps the number of its messages beside them.
use Rattle.std.specs.Prelude.{◌≡◌, ℕ, List, length}
use Rattle.ipc_objects.specs.declared.queue.Message.{Message}
use Rattle.ipc_objects.specs.Queue.{IsShape}

-- a queue has them and counts its messages
pub record IsCounted (max size count : ℕ) (messages : List Message) : Type 0 where
  pub shape : IsShape max size messages
  pub counted : count ≡ length messages
