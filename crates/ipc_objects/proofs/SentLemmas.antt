-- Where a message goes in the order of receive.
use Rattle.std.proofs.Common.{◌≡◌, ℕ, zero, suc, ◌+◌, ◌≤◌, ◌<◌, Bool, true, false, not, nat_le, nat_lt, List, [], ◌∷◌, ◌++◌, length, filter, refl, ap, arith, All, append_assoc, append-nil, sym, zero-add, rules}
use Rattle.std.proofs.lemmas.List.Filters.{length-filter_both}
use Rattle.std.proofs.lemmas.List.Elements.{All-head, All-tail, All-cons, All-append, All-filter, All-weaker, filter-append}
use Rattle.std.proofs.lemmas.Bool.{le-leb, le-ltb, lt-leb, lt-ltb}
use Rattle.std.proofs.lemmas.Bool.Decides.{nat_tests}
use Rattle.std.specs.List.{slice_get}
use Rattle.ipc_objects.specs.declared.queue.Message.{Message}
use Rattle.ipc_objects.specs.Limits.{mq_prio_max}
use Rattle.ipc_objects.specs.Queue.{after_send, IsShape}
use Rattle.ipc_objects.proofs.Orders.{rises-sent}
use Rattle.std.proofs.lemmas.Grind.{common_steps}

nat_lt_not : (a b : ℕ) → nat_lt b a ≡ not (nat_le a b)
nat_lt_not a b = grind (arith, nat_tests)

pub length-sent : (m : Message) (ms : List Message) → length (after_send m ms) ≡ length ms + 1
length-sent m ms = grind (arith, common_steps, length-filter_both, nat_lt_not)

pub filter-none : {X : Type 0} (p : X → Bool) (xs : List X) → All (λ x. p x ≡ false) xs → filter p xs ≡ []
filter-none p [] none = refl
filter-none p (x ∷ xs) none = rw (All-head (λ x. p x ≡ false) x xs none) (filter-none p xs (All-tail (λ x. p x ≡ false) x xs none))

pub filter-all : {X : Type 0} (p : X → Bool) (xs : List X) → All (λ x. p x ≡ true) xs → filter p xs ≡ xs
filter-all p [] all = refl
filter-all p (x ∷ xs) all = rw (All-head (λ x. p x ≡ true) x xs all) (ap (λ ys. x ∷ ys) (filter-all p xs (All-tail (λ x. p x ≡ true) x xs all)))

pub All-sent : (P : Message → Type 0) (m : Message) (ms : List Message) → P m → All P ms → All P (after_send m ms)
All-sent P m ms p all = search (rules, All-append, All-filter, All-cons)

-- the ranges still hold after a send that has room
pub shape-sent : (max size : ℕ) (ms : List Message) (m : Message) → IsShape max size ms → length ms < max → m.priority < mq_prio_max → length m.words ≤ size → IsShape max size (after_send m ms)
shape-sent max size ms m h room priority small = search (rules, length-sent, All-sent, rises-sent)

pub slice_get-append_here : {X : Type 0} (xs ys : List X) (i : ℕ) → i < length xs → slice_get (xs ++ ys) i ≡ slice_get xs i
slice_get-append_here [] ys i h = absurd (omega arith)
slice_get-append_here (x ∷ xs) ys zero h = refl
slice_get-append_here (x ∷ xs) ys (suc i) h = slice_get-append_here xs ys i (omega arith)

pub slice_get-append_later : {X : Type 0} (xs ys : List X) (i : ℕ) → slice_get (xs ++ ys) (length xs + i) ≡ slice_get ys i
slice_get-append_later [] ys i = ap (slice_get ys) (zero-add i)
slice_get-append_later (x ∷ xs) ys i = let e : suc (length xs) + i ≡ suc (length xs + i) = omega arith in rw e (slice_get-append_later xs ys i)

-- a message goes behind all where each has its priority or a greater one
pub sent-all : (m : Message) (xs : List Message) → All (λ x. m.priority ≤ x.priority) xs → after_send m xs ≡ xs ++ m ∷ []
sent-all m xs most = search (rules, filter-all, All-weaker, le-leb, filter-none, le-ltb)

-- a message goes before all of lesser priorities at the end
pub sent-append-less : (m : Message) (xs ys : List Message) → All (λ x. x.priority < m.priority) ys → after_send m (xs ++ ys) ≡ after_send m xs ++ ys
sent-append-less m xs ys less =
    rw (
      filter-append (λ x. nat_le m.priority x.priority) xs ys,
      filter-append (λ x. nat_lt x.priority m.priority) xs ys,
      filter-none (λ x. nat_le m.priority x.priority) ys (All-weaker (λ x. x.priority < m.priority) (λ x. nat_le m.priority x.priority ≡ false) (λ x h. lt-leb m.priority x.priority h) ys less),
      filter-all (λ x. nat_lt x.priority m.priority) ys (All-weaker (λ x. x.priority < m.priority) (λ x. nat_lt x.priority m.priority ≡ true) (λ x h. lt-ltb x.priority m.priority h) ys less),
      append-nil (filter (λ x. nat_le m.priority x.priority) xs),
    )
    (sym (append_assoc (filter (λ x. nat_le m.priority x.priority) xs) (m ∷ filter (λ x. nat_lt x.priority m.priority) xs) ys))

-- a message goes behind all of greater priorities at the front
pub sent-append-greater : (m : Message) (xs ys : List Message) → All (λ x. m.priority < x.priority) xs → after_send m (xs ++ ys) ≡ xs ++ after_send m ys
sent-append-greater m xs ys greater =
    rw (
      filter-append (λ x. nat_le m.priority x.priority) xs ys,
      filter-append (λ x. nat_lt x.priority m.priority) xs ys,
      filter-all (λ x. nat_le m.priority x.priority) xs (All-weaker (λ x. m.priority < x.priority) (λ x. nat_le m.priority x.priority ≡ true) (λ x h. le-leb m.priority x.priority (omega arith)) xs greater),
      filter-none (λ x. nat_lt x.priority m.priority) xs (All-weaker (λ x. m.priority < x.priority) (λ x. nat_lt x.priority m.priority ≡ false) (λ x h. le-ltb x.priority m.priority (omega arith)) xs greater),
    )
    (append_assoc xs (filter (λ x. nat_le m.priority x.priority) ys) (m ∷ filter (λ x. nat_lt x.priority m.priority) ys))
