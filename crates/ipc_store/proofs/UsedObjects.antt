-- What a call on an open object makes of it, in each kernel where each object has a name.
use Rattle.std.proofs.Common.{◌≡◌, ℕ, ◌+◌, ◌-◌, ◌==◌, Bool, true, false, cond, not, nat_lt, nat_le, ◌||◌, List, [], ◌∷◌, zero, suc, length, set, Option, Some, None, unwrap_or, slice_get, option_and_then, refl, sym, ap, ◌∙◌, arith, rules}
use Rattle.std.specs.Option.{option_map}
use Rattle.ipc_names.specs.declared.errno.Errno.{Errno}
use Rattle.ipc_names.specs.declared.errno.Errno.TheVariants.{Again, BadDescriptor, Invalid, MessageSize}
use Rattle.ipc_names.specs.Errno.{number_of}
use Rattle.ipc_objects.specs.declared.queue.Message.{Message}
use Rattle.ipc_objects.specs.Limits.{mq_prio_max, sem_value_max}
use Rattle.ipc_objects.specs.Queue.{QueueState, with_message}
use Rattle.ipc_kernel.specs.declared.place.Place.{Place}
use Rattle.ipc_kernel.specs.declared.place.Place.TheVariants.{Empty, Mq, Sem as SemPlace}
use Rattle.ipc_kernel.specs.declared.process.OpenTables.{OpenTables}
use Rattle.ipc_kernel.specs.declared.process.Slot.{Slot}
use Rattle.ipc_kernel.specs.declared.process.Descriptor.{Descriptor}
use Rattle.ipc_kernel.specs.declared.call.Call.{Call}
use Rattle.ipc_kernel.specs.declared.call.Call.TheVariants.{MqSend, MqReceive, SemWait, SemTrywait, SemPost, SemGetvalue}
use Rattle.ipc_kernel.specs.declared.call.Handle.TheVariants.{Mqd, Slot as Sem}
use Rattle.ipc_kernel.specs.declared.call.Reply.{Reply}
use Rattle.ipc_kernel.specs.declared.call.Reply.TheVariants.{Plain, Message as received, Value}
use Rattle.ipc_kernel.specs.declared.call.Answer.{Answer}
use Rattle.ipc_kernel.specs.declared.call.Answer.TheVariants.{Done, Wait}
use Rattle.ipc_kernel.specs.Processes.{process_at}
use Rattle.ipc_kernel.specs.Places.{place_at, has_name, queue_in, semaphore_value, with_queue, with_value}
use Rattle.ipc_kernel.specs.Kernel.{KernelState}
use Rattle.ipc_kernel.specs.Outcomes.{Outcome, refusal, waiting, completion, wait_or_again, open_queue, open_semaphore, with_queue_at, with_value_at}
use Rattle.ipc_kernel.specs.Queues.{mq_send, mq_receive, take_first}
use Rattle.ipc_kernel.specs.Semaphores.{sem_wait, sem_trywait, sem_post, sem_getvalue}
use Rattle.ipc_kernel.specs.Answer.{answer}
use Rattle.ipc_kernel.specs.Operands.{are_named, place_of}
use Rattle.ipc_kernel.proofs.KernelLemmas.{done_settled}
use Rattle.ipc_store.proofs.Renamings.{held_by, slot_by}
use Rattle.ipc_store.proofs.SettledTables.{settled_named}
use Rattle.ipc_store.proofs.NamedPlaces.{is_named, all_set}
use Rattle.ipc_store.proofs.LocalCalls.{back}

-- the kernel with another object in place i
abbrev pub with_object : KernelState → ℕ → Place → KernelState
with_object k i x = record { places = set k.places i x; processes = k.processes }

-- what a call makes of object o in place i, by tables t: the same in each kernel that has them
abbrev pub Makes : Call → OpenTables → ℕ → Place → Answer → Place → Type 0
Makes c t i o a x =
    (k : KernelState) (p : ℕ) → are_named k.places ≡ true → process_at k.processes p ≡ t → place_at k.places i ≡ o → answer k p c ≡ (a, with_object k i x)

abbrev pub outcome : Answer → KernelState → Outcome
outcome a k = (a, k)

abbrev pub with_places : KernelState → List Place → KernelState
with_places k ps = record { places = ps; processes = k.processes }

-- nothing
unchanged : (k : KernelState) (i : ℕ) (o : Place) (a : Answer) → place_at k.places i ≡ o → outcome a k ≡ outcome a (with_object k i o)
unchanged k i o a at = ap (λ ps. outcome a (with_places k ps)) (sym (back k.places i Empty o at))

-- another object
done_with : (k : KernelState) (i : ℕ) (x : Place) (r : Reply) → are_named k.places ≡ true → is_named x ≡ true → completion (with_object k i x) r ≡ (Done r, with_object k i x)
done_with k i x r named new = done_settled (with_object k i x) r (settled_named k.processes (set k.places i x) (all_set is_named k.places i x new named))

-- an open slot or descriptor
slot_there : (t : OpenTables) (s i : ℕ) → place_of t (Sem s) ≡ Some i → (h : Slot) × (slot_by s t ≡ Some h) × (h.place ≡ i)
slot_there t s i e = by (slot_by s t) refl e
  where
    by : (o : Option Slot) → slot_by s t ≡ o → option_map (λ (x : Slot). x.place) o ≡ Some i → (h : Slot) × (slot_by s t ≡ Some h) × (h.place ≡ i)
    by None f e = absurd (cc)
    by (Some h) f e = (h, f, cc)

pub held_there : (t : OpenTables) (d i : ℕ) → place_of t (Mqd d) ≡ Some i → (h : Descriptor) × (held_by d t ≡ Some h) × (h.place ≡ i)
held_there t d i e = by (held_by d t) refl e
  where
    by : (o : Option Descriptor) → held_by d t ≡ o → option_map (λ (x : Descriptor). x.place) o ≡ Some i → (h : Descriptor) × (held_by d t ≡ Some h) × (h.place ≡ i)
    by None f e = absurd (cc)
    by (Some h) f e = (h, f, cc)

semaphore_open : (k : KernelState) (p s i : ℕ) (t : OpenTables) (n : Option (List ℕ)) (v : ℕ) → process_at k.processes p ≡ t → place_of t (Sem s) ≡ Some i → place_at k.places i ≡ SemPlace n v
    → (h : Slot) × (open_semaphore k p s ≡ Some (h, v)) × (h.place ≡ i)
semaphore_open k p s i t n v has opens at =
    let h = slot_there t s i opens in
    let see : Place → Option (Slot × ℕ) = λ x. option_map (λ v. (h.0, v)) (semaphore_value x) in
    let look : Option Slot → Option (Slot × ℕ) = option_and_then (λ (slot : Slot). option_map (λ v. (slot, v)) (semaphore_value (place_at k.places slot.place))) in
    (h.0, ap (λ u. look (slot_by s u)) has ∙ ap look h.1 ∙ ap (λ j. see (place_at k.places j)) h.2 ∙ ap see at, h.2)

queue_open : (k : KernelState) (p d i : ℕ) (t : OpenTables) (h : Descriptor) (n : Option (List ℕ)) (q : QueueState) → process_at k.processes p ≡ t → held_by d t ≡ Some h → h.place ≡ i → place_at k.places i ≡ Mq n q
    → open_queue k p d ≡ Some (h, q)
queue_open k p d i t h n q has holds place at =
    let see : Place → Option (Descriptor × QueueState) = λ x. option_map (λ q. (h, q)) (queue_in x) in
    let look : Option Descriptor → Option (Descriptor × QueueState) = option_and_then (λ (held : Descriptor). option_map (λ q. (held, q)) (queue_in (place_at k.places held.place))) in
    ap (λ u. look (held_by d u)) has ∙ ap look holds ∙ ap (λ j. see (place_at k.places j)) place ∙ ap see at

-- another value
value_done : (k : KernelState) (j i v u : ℕ) (n : Option (List ℕ)) (r : Reply) → are_named k.places ≡ true → is_named (SemPlace n v) ≡ true → j ≡ i → place_at k.places i ≡ SemPlace n v
    → completion (with_value_at k j u) r ≡ (Done r, with_object k i (SemPlace n u))
value_done k j i v u n r all named place at =
    ap (λ a. completion (with_value_at k a u) r) place ∙ ap (λ x. completion (with_object k i (with_value u x)) r) at ∙ done_with k i (SemPlace n u) r all named

pub post : (s i v : ℕ) (t : OpenTables) (n : Option (List ℕ)) → place_of t (Sem s) ≡ Some i → is_named (SemPlace n v) ≡ true → (v == sem_value_max) ≡ false
    → Makes (SemPost s) t i (SemPlace n v) (Done (Plain 0)) (SemPlace n (v + 1))
unfolding answer
post s i v t n opens named low k p all has at =
    let h = semaphore_open k p s i t n v has opens at in
    ap (sem_post k) h.1 ∙ rw low (value_done k h.0.place i v (v + 1) n (Plain 0) all named h.2 at)

pub wait : (s i v : ℕ) (t : OpenTables) (n : Option (List ℕ)) → place_of t (Sem s) ≡ Some i → is_named (SemPlace n v) ≡ true → (v == 0) ≡ false
    → Makes (SemWait s) t i (SemPlace n v) (Done (Plain 0)) (SemPlace n (v - 1))
unfolding answer
wait s i v t n opens named some k p all has at =
    let h = semaphore_open k p s i t n v has opens at in
    ap (sem_wait k) h.1 ∙ rw some (value_done k h.0.place i v (v - 1) n (Plain 0) all named h.2 at)

-- at 0 it waits
pub wait_none : (s i : ℕ) (t : OpenTables) (n : Option (List ℕ)) (k : KernelState) (p : ℕ) → place_of t (Sem s) ≡ Some i → process_at k.processes p ≡ t → place_at k.places i ≡ SemPlace n 0
    → (answer k p (SemWait s)).0 ≡ Wait
unfolding answer
wait_none s i t n k p opens has at =
    let h = semaphore_open k p s i t n 0 has opens at in
    ap (λ o. (sem_wait k o).0) h.1

pub trywait : (s i v : ℕ) (t : OpenTables) (n : Option (List ℕ)) → place_of t (Sem s) ≡ Some i → is_named (SemPlace n v) ≡ true
    → (a : Reply) × (u : ℕ) × Makes (SemTrywait s) t i (SemPlace n v) (Done a) (SemPlace n u)
unfolding answer
trywait s i v t n opens named = by (v == 0) refl
  where
    by : (b : Bool) → (v == 0) ≡ b → (a : Reply) × (u : ℕ) × Makes (SemTrywait s) t i (SemPlace n v) (Done a) (SemPlace n u)
    by true e = (
      Plain (65536 - number_of Again),
      v,
      λ k p all has at.
          let h = semaphore_open k p s i t n v has opens at in ap (sem_trywait k) h.1 ∙ rw e (unchanged k i (SemPlace n v) _ at),
    )
    by false e = (
      Plain 0,
      v - 1,
      λ k p all has at.
          let h = semaphore_open k p s i t n v has opens at in ap (sem_trywait k) h.1 ∙ rw e (value_done k h.0.place i v (v - 1) n (Plain 0) all named h.2 at),
    )

pub getvalue : (s i v : ℕ) (t : OpenTables) (n : Option (List ℕ)) → place_of t (Sem s) ≡ Some i → is_named (SemPlace n v) ≡ true
    → Makes (SemGetvalue s) t i (SemPlace n v) (Done (Value v)) (SemPlace n v)
unfolding answer
getvalue s i v t n opens named k p all has at =
    let h = semaphore_open k p s i t n v has opens at in
    ap (sem_getvalue k) h.1 ∙ done_settled k (Value v) (settled_named k.processes k.places all) ∙ unchanged k i (SemPlace n v) _ at

-- what a call makes of a queue, with its answer
abbrev pub Made : Type 0
Made = Answer × QueueState

abbrev refused : Errno → QueueState → Made
refused e q = (Done (Plain (65536 - number_of e)), q)

abbrev blocked : Descriptor → QueueState → Made
blocked h q = cond h.nonblock (refused Again q) (Wait, q)

abbrev pub taken : Descriptor → QueueState → List Message → Made
taken h q [] = blocked h q
taken h q (m ∷ rest) = (Done (received m.words m.priority), record q { messages = rest })

abbrev pub take_by : Bool → Bool → Descriptor → QueueState → Made
take_by closed short h q = cond closed (refused BadDescriptor q) (cond short (refused MessageSize q) (taken h q q.messages))

abbrev pub take : Descriptor → ℕ → QueueState → Made
take h len q = take_by (h.access == 1) (nat_lt len q.message_size) h q

abbrev pub give_by : Bool → Bool → Bool → Bool → Descriptor → ℕ → List ℕ → QueueState → Made
give_by closed high long full h prio words q =
    cond closed (refused BadDescriptor q) (cond high (refused Invalid q) (cond long (refused MessageSize q) (cond full (blocked h q) (Done (Plain 0), with_message prio words q))))

abbrev pub give : Descriptor → ℕ → List ℕ → QueueState → Made
give h prio words q = give_by (h.access == 0) (nat_le mq_prio_max prio) (nat_lt q.message_size (length words)) (nat_le q.max_messages (length q.messages)) h prio words q

-- an outcome is that
abbrev Fits : KernelState → ℕ → Option (List ℕ) → Outcome → Made → Type 0
Fits k i n o m = o ≡ (m.0, with_object k i (Mq n m.1))

choice : (k : KernelState) (i : ℕ) (n : Option (List ℕ)) (b : Bool) (x y : Outcome) (m l : Made) → Fits k i n x m → Fits k i n y l → Fits k i n (cond b x y) (cond b m l)
choice k i n true x y m l f g = f
choice k i n false x y m l f g = g

queue_done : (k : KernelState) (j i : ℕ) (n : Option (List ℕ)) (q u : QueueState) (r : Reply) → are_named k.places ≡ true → is_named (Mq n q) ≡ true → j ≡ i → place_at k.places i ≡ Mq n q
    → Fits k i n (completion (with_queue_at k j u) r) (Done r, u)
queue_done k j i n q u r all named place at =
    ap (λ a. completion (with_queue_at k a u) r) place ∙ ap (λ x. completion (with_object k i (with_queue u x)) r) at ∙ done_with k i (Mq n u) r all named

module _ (k : KernelState) (i : ℕ) (n : Option (List ℕ)) (q : QueueState) (h : Descriptor) (all : are_named k.places ≡ true) (named : is_named (Mq n q) ≡ true) (place : h.place ≡ i) (at : place_at k.places i ≡ Mq n q) where
  refuses : (e : Errno) → Fits k i n (refusal k e) (refused e q)
  refuses e = unchanged k i (Mq n q) _ at

  blocks : Fits k i n (wait_or_again k h) (blocked h q)
  blocks = choice k i n h.nonblock _ _ (refused Again q) (Wait, q) (refuses Again) (unchanged k i (Mq n q) Wait at)

  takes : (ms : List Message) → Fits k i n (take_first k h q ms) (taken h q ms)
  takes [] = blocks
  takes (m ∷ rest) = queue_done k h.place i n q (record q { messages = rest }) (received m.words m.priority) all named place at

  received_by : (len : ℕ) → Fits k i n (mq_receive k len (Some (h, q))) (take h len q)
  received_by len = choice k i n (h.access == 1) _ _ _ _ (refuses BadDescriptor) (choice k i n (nat_lt len q.message_size) _ _ _ _ (refuses MessageSize) (takes q.messages))

  sent_by : (prio : ℕ) (words : List ℕ) → Fits k i n (mq_send k prio words (Some (h, q))) (give h prio words q)
  sent_by prio words =
      choice k i n (h.access == 0) _ _ _ _ (refuses BadDescriptor)
      (choice k i n (nat_le mq_prio_max prio) _ _ _ _ (refuses Invalid)
      (choice k i n (nat_lt q.message_size (length words)) _ _ _ _ (refuses MessageSize)
      (choice k i n (nat_le q.max_messages (length q.messages)) _ _ _ _ blocks (queue_done k h.place i n q (with_message prio words q) (Plain 0) all named place at))))

pub receive : (d len i : ℕ) (t : OpenTables) (n : Option (List ℕ)) (q : QueueState) (h : Descriptor) → held_by d t ≡ Some h → h.place ≡ i → is_named (Mq n q) ≡ true
    → Makes (MqReceive d len) t i (Mq n q) (take h len q).0 (Mq n (take h len q).1)
unfolding answer
receive d len i t n q h holds place named k p all has at = ap (mq_receive k len) (queue_open k p d i t h n q has holds place at) ∙ received_by k i n q h all named place at len

pub send : (d prio i : ℕ) (words : List ℕ) (t : OpenTables) (n : Option (List ℕ)) (q : QueueState) (h : Descriptor) → held_by d t ≡ Some h → h.place ≡ i → is_named (Mq n q) ≡ true
    → Makes (MqSend d words prio) t i (Mq n q) (give h prio words q).0 (Mq n (give h prio words q).1)
unfolding answer
send d prio i words t n q h holds place named k p all has at = ap (mq_send k prio words) (queue_open k p d i t h n q has holds place at) ∙ sent_by k i n q h all named place at prio words
