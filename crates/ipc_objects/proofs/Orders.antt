-- The messages of a queue stay in the order of their priorities.
use Rattle.std.proofs.Common.{◌≤◌, Bool, true, false, List, [], ◌∷◌, ◌++◌, filter, All, cond, rules}
use Rattle.std.proofs.lemmas.List.Elements.{All-head, All-tail, All-cons, All-append, All-filter, All-weaker, filter_passes}
use Rattle.std.proofs.lemmas.Bool.{leb-true, ltb-true}
use Rattle.ipc_objects.specs.declared.queue.Message.{Message}
use Rattle.ipc_objects.specs.Queue.{after_send, NeverRises}

-- messages of two lists in a row, where those of the second are of no greater priority
rises-append : (xs ys : List Message) → NeverRises xs → NeverRises ys → All (λ x. All (λ y. y.priority ≤ x.priority) ys) xs → NeverRises (xs ++ ys)
rises-append [] ys h k below = k
rises-append (x ∷ xs) ys h k below = (
  All-append (λ y. y.priority ≤ x.priority) xs ys h.0 (All-head (λ z. All (λ y. y.priority ≤ z.priority) ys) x xs below),
  rises-append xs ys h.1 k (All-tail (λ z. All (λ y. y.priority ≤ z.priority) ys) x xs below),
)

kept-rises : (b : Bool) (p : Message → Bool) (m : Message) (ms : List Message) → NeverRises (m ∷ ms) → NeverRises (filter p ms) → NeverRises (cond b (m ∷ filter p ms) (filter p ms))
kept-rises true p m ms h rest = (All-filter p (λ x. x.priority ≤ m.priority) ms h.0, rest)
kept-rises false p m ms h rest = rest

-- some of the messages
rises-filter : (p : Message → Bool) (ms : List Message) → NeverRises ms → NeverRises (filter p ms)
rises-filter p [] h = tt
rises-filter p (m ∷ ms) h = kept-rises (p m) p m ms h (rises-filter p ms h.1)

-- the order still holds after a send
pub rises-sent : (m : Message) (ms : List Message) → NeverRises ms → NeverRises (after_send m ms)
rises-sent m ms h = search (rules, All-weaker, leb-true, filter_passes, ltb-true, rises-append, rises-filter, All-cons)
