-- A receive and a send of a message that isn't received before the first make the same of a queue in both orders.
use Rattle.std.proofs.Common.{◌≡◌, ℕ, suc, ◌==◌, Bool, true, false, cond, not, nat_lt, nat_le, List, [], ◌∷◌, length, refl, sym, ap, subst, ◌∙◌, arith, rules}
use Rattle.std.proofs.lemmas.Bool.{and_parts}
use Rattle.ipc_objects.specs.declared.queue.Message.{Message}
use Rattle.ipc_objects.specs.Limits.{mq_prio_max}
use Rattle.ipc_objects.specs.Queue.{QueueState, after_send, with_message}
use Rattle.ipc_kernel.specs.declared.process.Descriptor.{Descriptor}
use Rattle.ipc_kernel.specs.declared.call.Answer.TheVariants.{Wait}
use Rattle.ipc_store.specs.Uses.{goes_first, goes_last, are_none}
use Rattle.ipc_store.proofs.UsedObjects.{Made, taken, take_by, take, give_by, give}

-- a receive by descriptor h and a send by descriptor g, in both orders
pub record AreSwapped (h g : Descriptor) (len prio : ℕ) (words : List ℕ) (q : QueueState) : Type 0 where
  pub given : (give g prio words (take h len q).1).0 ≡ (give g prio words q).0
  pub taken_too : (take h len (give g prio words q).1).0 ≡ (take h len q).0
  pub queue : (give g prio words (take h len q).1).1 ≡ (take h len (give g prio words q).1).1

-- whether a queue is full
abbrev pub is_full : QueueState → Bool
is_full q = nat_le q.max_messages (length q.messages)

abbrev queue_of : ℕ → ℕ → List Message → QueueState
queue_of max size ms = record { max_messages = max; message_size = size; messages = ms }

-- a message that isn't received before the first stands behind it
le_of_lt : (a b : ℕ) → nat_lt a b ≡ false → nat_le b a ≡ true
le_of_lt a b e = grind arith

sent_behind : (m x : Message) (rest : List Message) → nat_lt m.priority x.priority ≡ false → after_send x (m ∷ rest) ≡ m ∷ after_send x rest
sent_behind m x rest later = rw (le_of_lt m.priority x.priority later, later) refl

full_less : (max n : ℕ) → nat_le max (suc n) ≡ false → nat_le max n ≡ false
full_less max n e = grind arith

-- the rest of a queue stays
pub give_max : (closed high long full : Bool) (g : Descriptor) (prio : ℕ) (words : List ℕ) (q : QueueState) → (give_by closed high long full g prio words q).1.message_size ≡ q.message_size
give_max true high long full g prio words q = refl
give_max false true long full g prio words q = refl
give_max false false true full g prio words q = refl
give_max false false false true g prio words q = by g.nonblock
  where
    by : (b : Bool) → (give_by false false false true (record g { nonblock = b }) prio words q).1.message_size ≡ q.message_size
    by true = refl
    by false = refl
give_max false false false false g prio words q = refl

pub take_sizes : (closed short : Bool) (h : Descriptor) (q : QueueState) → ((take_by closed short h q).1.message_size ≡ q.message_size) × ((take_by closed short h q).1.max_messages ≡ q.max_messages)
take_sizes true short h q = (refl, refl)
take_sizes false true h q = (refl, refl)
take_sizes false false h q = by q.messages h.nonblock
  where
    by : (ms : List Message) (b : Bool) → ((taken (record h { nonblock = b }) q ms).1.message_size ≡ q.message_size) × ((taken (record h { nonblock = b }) q ms).1.max_messages ≡ q.max_messages)
    by [] true = (refl, refl)
    by [] false = (refl, refl)
    by (m ∷ rest) b = (refl, refl)

-- both, by what refuses them
abbrev Swaps : Bool → Bool → Bool → Bool → Bool → Descriptor → Descriptor → ℕ → List ℕ → QueueState → Type 0
Swaps ct sh cg hi lo h g prio words q =
    let give_it : QueueState → Made = λ u. give_by cg hi lo (is_full u) g prio words u in
    let take_it : QueueState → Made = λ u. take_by ct sh h u in
    ((give_it (take_it q).1).0 ≡ (give_it q).0) × ((take_it (give_it q).1).0 ≡ (take_it q).0) × ((give_it (take_it q).1).1 ≡ (take_it (give_it q).1).1)

swaps : (ct sh cg hi lo : Bool) (h g : Descriptor) (prio : ℕ) (words : List ℕ) (max size : ℕ) (m : Message) (rest : List Message) → nat_lt m.priority prio ≡ false
    → (cg ≡ false → hi ≡ false → lo ≡ false → nat_le max (suc (length rest)) ≡ false) → Swaps ct sh cg hi lo h g prio words (queue_of max size (m ∷ rest))
swaps true sh cg hi lo h g prio words max size m rest later room = (refl, refl, refl)
swaps false true cg hi lo h g prio words max size m rest later room = (refl, refl, refl)
swaps false false true hi lo h g prio words max size m rest later room = (refl, refl, refl)
swaps false false false true lo h g prio words max size m rest later room = (refl, refl, refl)
swaps false false false false true h g prio words max size m rest later room = (refl, refl, refl)
swaps false false false false false h g prio words max size m rest later room =
    let full = room refl refl refl in
    rw (full, full_less max (length rest) full, sent_behind m (record { priority = prio; words = words }) rest later) (refl, refl, refl)

-- a receive that is refused, of an empty queue
swaps_none : (ct sh cg hi lo : Bool) (h g : Descriptor) (prio : ℕ) (words : List ℕ) (max size : ℕ) → h.nonblock ≡ false → ((take_by ct sh h (queue_of max size [])).0 ≡ Wait → ⊥)
    → Swaps ct sh cg hi lo h g prio words (queue_of max size [])
swaps_none true sh cg hi lo h g prio words max size waits answered = (refl, refl, refl)
swaps_none false true cg hi lo h g prio words max size waits answered = (refl, refl, refl)
swaps_none false false cg hi lo h g prio words max size waits answered = absurd (answered (rw waits refl))

-- as the calls test it
by_tests : (h g : Descriptor) (len prio : ℕ) (words : List ℕ) (q : QueueState)
    → Swaps (h.access == 1) (nat_lt len q.message_size) (g.access == 0) (nat_le mq_prio_max prio) (nat_lt q.message_size (length words)) h g prio words q → AreSwapped h g len prio words q
by_tests h g len prio words q s =
    let given = give_max (g.access == 0) (nat_le mq_prio_max prio) (nat_lt q.message_size (length words)) (is_full q) g prio words q in
    let taken_ = take_sizes (h.access == 1) (nat_lt len q.message_size) h q in
    let u = (take h len q).1 in
    let v = (give g prio words q).1 in
    let give_u : ℕ → Made = λ size. give_by (g.access == 0) (nat_le mq_prio_max prio) (nat_lt size (length words)) (is_full u) g prio words u in
    let take_v : ℕ → Made = λ size. take_by (h.access == 1) (nat_lt len size) h v in
    record {
      given = ap (λ n. (give_u n).0) taken_.0 ∙ s.0;
      taken_too = ap (λ n. (take_v n).0) given ∙ s.1;
      queue = ap (λ n. (give_u n).1) taken_.0 ∙ s.2 ∙ sym (ap (λ n. (take_v n).1) given);
    }

-- the room of a send that is answered
pub swapped_queue : (h g : Descriptor) (len prio : ℕ) (words : List ℕ) (q : QueueState) (m : Message) (rest : List Message) → q.messages ≡ m ∷ rest → nat_lt m.priority prio ≡ false
    → ((g.access == 0) ≡ false → nat_le mq_prio_max prio ≡ false → nat_lt q.message_size (length words) ≡ false → is_full q ≡ false) → AreSwapped h g len prio words q
swapped_queue h g len prio words q m rest e later room =
    let same : queue_of q.max_messages q.message_size (m ∷ rest) ≡ q = ap (queue_of q.max_messages q.message_size) (sym e) in
    by_tests h g len prio words q (subst (Swaps (h.access == 1) (nat_lt len q.message_size) (g.access == 0) (nat_le mq_prio_max prio) (nat_lt q.message_size (length words)) h g prio words) same
    (swaps _ _ _ _ _ h g prio words q.max_messages q.message_size m rest later (λ a b c. subst (λ u. is_full u ≡ false) (sym same) (room a b c))))

pub swapped_none : (h g : Descriptor) (len prio : ℕ) (words : List ℕ) (q : QueueState) → q.messages ≡ [] → h.nonblock ≡ false → ((take h len q).0 ≡ Wait → ⊥) → AreSwapped h g len prio words q
swapped_none h g len prio words q e waits answered =
    let same : queue_of q.max_messages q.message_size [] ≡ q = ap (queue_of q.max_messages q.message_size) (sym e) in
    by_tests h g len prio words q (subst (Swaps (h.access == 1) (nat_lt len q.message_size) (g.access == 0) (nat_le mq_prio_max prio) (nat_lt q.message_size (length words)) h g prio words) same
    (swaps_none _ _ _ _ _ h g prio words q.max_messages q.message_size waits (λ w. answered (subst (λ u. (take_by (h.access == 1) (nat_lt len q.message_size) h u).0 ≡ Wait) same w))))

-- a send that is answered has room, or is refused
pub room_of : (closed high long full : Bool) (g : Descriptor) (prio : ℕ) (words : List ℕ) (q : QueueState) → g.nonblock ≡ false → ((give_by closed high long full g prio words q).0 ≡ Wait → ⊥)
    → closed ≡ false → high ≡ false → long ≡ false → full ≡ false
room_of false false false true g prio words q waits answered a b c = absurd (answered (rw waits refl))
room_of false false false false g prio words q waits answered a b c = refl
room_of _ _ _ _ g prio words q waits answered a b c = absurd (cc)

-- what is answered doesn't wait
pub taken_done : (closed short : Bool) (h : Descriptor) (q : QueueState) (ms : List Message) → q.messages ≡ ms → are_none ms ≡ false → (take_by closed short h q).0 ≡ Wait → ⊥
taken_done true short h q ms e some w = absurd (cc)
taken_done false true h q ms e some w = absurd (cc)
taken_done false false h q [] e some w = absurd (cc)
taken_done false false h q (m ∷ rest) e some w = let done : (taken h q (m ∷ rest)).0 ≡ Wait = subst (λ ms. (taken h q ms).0 ≡ Wait) e w in absurd (cc)

pub given_done : (closed high long full : Bool) (g : Descriptor) (prio : ℕ) (words : List ℕ) (q : QueueState) → full ≡ false → (give_by closed high long full g prio words q).0 ≡ Wait → ⊥
given_done true high long full g prio words q room w = absurd (cc)
given_done false true long full g prio words q room w = absurd (cc)
given_done false false true full g prio words q room w = absurd (cc)
given_done false false false true g prio words q room w = absurd (cc)
given_done false false false false g prio words q room w = absurd (cc)

-- the first message stays the first
pub first_stays : (closed high long full : Bool) (g : Descriptor) (prio : ℕ) (words : List ℕ) (q : QueueState) (m : Message) (rest : List Message) → q.messages ≡ m ∷ rest → nat_lt m.priority prio ≡ false
    → (more : List Message) × ((give_by closed high long full g prio words q).1.messages ≡ m ∷ more)
first_stays true high long full g prio words q m rest e later = (rest, e)
first_stays false true long full g prio words q m rest e later = (rest, e)
first_stays false false true full g prio words q m rest e later = (rest, e)
first_stays false false false true g prio words q m rest e later = by g.nonblock
  where
    by : (b : Bool) → (more : List Message) × ((give_by false false false true (record g { nonblock = b }) prio words q).1.messages ≡ m ∷ more)
    by true = (rest, e)
    by false = (rest, e)
first_stays false false false false g prio words q m rest e later =
    let x : Message = record { priority = prio; words = words } in
    (after_send x rest, ap (after_send x) e ∙ sent_behind m x rest later)

-- what would go last still would, and there is room still
pub last_stays : (closed short : Bool) (h : Descriptor) (q : QueueState) (prio : ℕ)
    → (goes_last prio q.messages ≡ true → goes_last prio (take_by closed short h q).1.messages ≡ true)
    × (nat_lt (length q.messages) q.max_messages ≡ true → nat_lt (length (take_by closed short h q).1.messages) (take_by closed short h q).1.max_messages ≡ true)
last_stays true short h q prio = (λ e. e, λ e. e)
last_stays false true h q prio = (λ e. e, λ e. e)
last_stays false false h q prio = by q.messages refl h.nonblock
  where
    less : (n m : ℕ) → nat_lt (suc n) m ≡ true → nat_lt n m ≡ true
    less n m e = grind arith

    by : (ms : List Message) → q.messages ≡ ms → (b : Bool)
        → (goes_last prio q.messages ≡ true → goes_last prio (taken (record h { nonblock = b }) q ms).1.messages ≡ true)
        × (nat_lt (length q.messages) q.max_messages ≡ true → nat_lt (length (taken (record h { nonblock = b }) q ms).1.messages) (taken (record h { nonblock = b }) q ms).1.max_messages ≡ true)
    by [] e true = (λ l. l, λ l. l)
    by [] e false = (λ l. l, λ l. l)
    by (m ∷ rest) e b = (
      λ l. (and_parts (nat_le prio m.priority) (goes_last prio rest) (sym (ap (goes_last prio) e) ∙ l)).1,
      λ l. less (length rest) q.max_messages (sym (ap (λ ms. nat_lt (length ms) q.max_messages) e) ∙ l),
    )
