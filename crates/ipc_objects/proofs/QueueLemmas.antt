-- Queues after a send and after a receive.
use Rattle.std.proofs.Common.{◌≡◌, ℕ, ◌+◌, ◌-◌, ◌≤◌, ◌<◌, List, ◌∷◌, length, ap, arith, rules}
use Rattle.std.proofs.lemmas.List.Elements.{All-tail}
use Rattle.ipc_objects.specs.Limits.{mq_prio_max}
use Rattle.ipc_objects.specs.declared.queue.Message.{Message}
use Rattle.ipc_objects.specs.Queue.{after_send, IsShape}
use Rattle.ipc_objects.specs.Private.Counted.{IsCounted}
use Rattle.ipc_objects.proofs.SentLemmas.{length-sent, shape-sent}

shape-tail : (max size : ℕ) (x : Message) (ms : List Message) → IsShape max size (x ∷ ms) → IsShape max size ms
shape-tail max size x ms h = search (rules, All-tail)

-- one message more
pub counted_sent : (max size count : ℕ) (m : Message) (ms new : List Message) → IsCounted max size count ms → length ms < max → m.priority < mq_prio_max → length m.words ≤ size → new ≡ after_send m ms → IsCounted max size (count + 1) new
counted_sent max size count m ms new h room priority small is = record {
  shape = rw is (shape-sent max size ms m h.shape room priority small);
  counted = rw is (omega (arith, length-sent m ms, h.counted));
}

-- the first message less
pub counted_received : (max size count : ℕ) (m : Message) (ms new : List Message) → IsCounted max size count ms → ms ≡ m ∷ new → IsCounted max size (count - 1) new
counted_received max size count m ms new h is = record {
  shape = shape-tail max size m new (rw is at h.shape);
  counted = omega (arith, h.counted, ap length is);
}
