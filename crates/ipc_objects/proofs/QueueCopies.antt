-- Queues with the same messages.
use Rattle.std.proofs.Common.{◌≡◌, ℕ, ◌+◌, ◌<◌, ◌≤◌, true, false, Decides, List, [], length, take, unwrap_or, inl, inr, ap, sym, ◌∙◌, rules}
use Rattle.std.specs.List.{slice_get}
use Rattle.std.proofs.lemmas.Bool.{cases_lt}
use Rattle.std.proofs.lemmas.Bool.Decides.{Decides-eqb, same_from_decides}
use Rattle.std.proofs.lemmas.List.{take_all, take_more_same}
use Rattle.std.proofs.lemmas.Slice.Eq.{slice_eq-Decides}
use Rattle.std.proofs.lemmas.Option.{unwrap_or-slice_get, slice_get-get_or, slice_get_past}
use Rattle.ipc_objects.specs.declared.queue.Message.{Message}
use Rattle.ipc_objects.specs.Equality.{message_eq, queue_eq}
use Rattle.ipc_objects.specs.Queue.{QueueState}

-- a message that stands for none
abbrev no_message : Message
no_message = record { priority = 0; words = [] }

-- a list that has the same message at an index is as long
reaches : (xs ys : List Message) (i : ℕ) → i < length xs → slice_get xs i ≡ slice_get ys i → i < length ys
reaches xs ys i h here = elim (cases_lt i (length ys)) [
  | inl inside ↦ inside
  | inr past ↦ (let some = slice_get-get_or xs i no_message h in let none = slice_get_past ys i past in let never : ⊥ = cc in absurd never)
]

-- one more message is the same
pub same_more : (xs ys : List Message) (i : ℕ) → i < length xs → slice_get xs i ≡ slice_get ys i → take i xs ≡ take i ys → take (i + 1) xs ≡ take (i + 1) ys
same_more xs ys i h here so_far =
    take_more_same xs ys i no_message h (reaches xs ys i h here) so_far
    (sym (unwrap_or-slice_get xs i no_message) ∙ ap (λ o. unwrap_or o no_message) here ∙ unwrap_or-slice_get ys i no_message)

abbrev message : ℕ → List ℕ → Message
message priority words = record { priority = priority; words = words }

message_decides : (m n : Message) → Decides (message_eq m n) (m ≡ n)
message_decides m n = search rules

abbrev state : ℕ → ℕ → List Message → QueueState
state max size messages = record { max_messages = max; message_size = size; messages = messages }

-- `==` decides whether queues are the same
pub queue_decides : (a b : QueueState) → Decides (queue_eq a b) (a ≡ b)
queue_decides a b = search (rules, Decides-eqb, slice_eq-Decides, message_decides)

-- queues of the same attributes, and of the same messages as far as any reaches, are told to be equal
pub told_equal : (a b : QueueState) (i : ℕ) → a.max_messages ≡ b.max_messages → a.message_size ≡ b.message_size → length a.messages ≤ i → length b.messages ≤ i → take i a.messages ≡ take i b.messages → true ≡ queue_eq a b
told_equal a b i max size mine theirs same = search (rules, take_all, queue_decides)

-- other queues are told to differ
pub told_apart : (a b : QueueState) → (a ≡ b → ⊥) → false ≡ queue_eq a b
told_apart a b apart = same_from_decides false (queue_eq a b) (λ e. cc, λ same. absurd (apart same)) (queue_decides a b)
