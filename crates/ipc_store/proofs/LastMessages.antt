-- The last message of a queue has the least priority.
use Rattle.std.proofs.Common.{◌≡◌, ℕ, ◌≤◌, ◌-◌, ◌+◌, ◌<◌, nat_le, true, false, Bool, ◌&&◌, All, List, [], ◌∷◌, zero, suc, length, get_or, Option, Some, None, refl, sym, ap, subst, ◌∙◌, slice_get, arith, rules}
use Rattle.std.specs.List.{list_all}
use Rattle.std.proofs.lemmas.Option.{slice_get_within, slice_get-get_or, get_or_from_slice_get}
use Rattle.ipc_objects.specs.declared.queue.Message.{Message}
use Rattle.ipc_objects.specs.Queue.{NeverRises}
use Rattle.ipc_store.specs.Uses.{goes_last}

-- what holds of each holds of one
one_of : {A : Type 0} (P : A → Type 0) (xs : List A) (i : ℕ) (x : A) → All P xs → slice_get xs i ≡ Some x → P x
one_of P xs i x h e = subst P (get_or_from_slice_get xs i x x e) (h i x (slice_get_within xs i x e))

le_through : (a b c : ℕ) → nat_le a b ≡ true → b ≤ c → nat_le a c ≡ true
le_through a b c e h = grind arith

and_false : (b : Bool) → (b && false) ≡ false
and_false true = refl
and_false false = refl

and_true : (b : Bool) → (b && true) ≡ b
and_true true = refl
and_true false = refl

through : (a b c : ℕ) → c ≤ b → (nat_le a b && nat_le a c) ≡ nat_le a c
through a b c h = by (nat_le a c) refl
  where
    by : (x : Bool) → nat_le a c ≡ x → (nat_le a b && nat_le a c) ≡ nat_le a c
    by true e = ap (λ x. x && nat_le a c) (le_through a c b e h)
    by false e = ap (λ x. nat_le a b && x) e ∙ and_false (nat_le a b) ∙ sym e

last_is : (prio n : ℕ) (ms : List Message) (m : Message) → NeverRises ms → length ms ≡ suc n → slice_get ms n ≡ Some m → nat_le prio m.priority ≡ goes_last prio ms
last_is prio n [] m falls many last = absurd (cc)
last_is prio zero (x ∷ []) m falls many last = let same : x ≡ m = cc in sym (and_true (nat_le prio x.priority) ∙ ap (λ (y : Message). nat_le prio y.priority) same)
last_is prio zero (x ∷ y ∷ ys) m falls many last = absurd (omega (arith, many))
last_is prio (suc n) (x ∷ xs) m falls many last =
    let least : m.priority ≤ x.priority = one_of (λ (y : Message). y.priority ≤ x.priority) xs n m falls.0 last in
    sym (ap (λ b. nat_le prio x.priority && b) (sym (last_is prio n xs m falls.1 (omega (arith, many)) last)) ∙ through prio x.priority m.priority least)

-- so it tells whether a message goes last
pub goes_last_by : (prio count : ℕ) (ms : List Message) (m : Message) → NeverRises ms → count ≡ length ms → (count ≡ 0 → ⊥) → slice_get ms (count - 1) ≡ Some m → nat_le prio m.priority ≡ goes_last prio ms
goes_last_by prio count ms m falls many some last = last_is prio (count - 1) ms m falls (omega (arith, many, some)) last

pub goes_last_none : (prio count : ℕ) (ms : List Message) → count ≡ length ms → count ≡ 0 → true ≡ goes_last prio ms
goes_last_none prio count [] many none = refl
goes_last_none prio count (x ∷ xs) many none = absurd (omega (arith, many, none))

pub entry_there : (count : ℕ) (ms : List Message) → count ≡ length ms → (count ≡ 0 → ⊥) → slice_get ms (count - 1) ≡ None → ⊥
entry_there count ms many some none =
    let there = slice_get-get_or ms (count - 1) (record { priority = 0; words = [] }) (omega (arith, many, some)) in
    let no : None ≡ Some (get_or ms (count - 1) (record { priority = 0; words = [] })) = sym none ∙ there in
    absurd (cc)
