-- Loops over lists.
use Rattle.std.proofs.Common.{ℕ, ◌≡◌, ◌<◌, ◌+◌, List, [], ◌∷◌, ◌++◌, Option, Some, None, Bool, true, false, All, Any, IsTrue, flat_map, map, get_or, length, slice_get, take, subst, sym, ap, ◌∙◌, refl, arith}
use Rattle.std.specs.Bool.{MatchBool}
use Rattle.std.specs.List.{AllWithin, HoldsAt}
use Rattle.std.proofs.lemmas.List.{flat_map_more, get_or_default, take_more}
use Rattle.std.proofs.lemmas.List.Elements.{All-from_all_within}
use Rattle.std.proofs.lemmas.Option.{slice_get_within, get_or_from_slice_get}

-- an answer that is true where each element has P, and else false, for one that hasn't
pub all_told : {X : Type 0} (P : X → Type 0) (xs : List X) (r : Bool) → MatchBool r (AllWithin P xs 0 (length xs)) ((k : ℕ) × (k < length xs) × HoldsAt (λ x. P x → ⊥) xs k)
    → (IsTrue r → All P xs) × (All P xs → IsTrue r)
all_told P xs true all = (λ yes. All-from_all_within P xs all, λ each. refl)
all_told P [] false (k, within, not) = absurd (omega (arith, within))
all_told P (x ∷ xs) false (k, within, not) = (λ yes. absurd (let no : false ≡ true = yes in cc), λ each. absurd (not x (each k x within)))

-- the same where some element has P
pub any_told : {X : Type 0} (P : X → Type 0) (xs : List X) (r : Bool) → MatchBool r ((k : ℕ) × (k < length xs) × HoldsAt P xs k) (AllWithin (λ x. P x → ⊥) xs 0 (length xs))
    → (IsTrue r → Any P xs) × (Any P xs → IsTrue r)
any_told P [] true (k, within, has) = absurd (omega (arith, within))
any_told P (x ∷ xs) true (k, within, has) =
    (λ yes. (k, get_or (x ∷ xs) k x, within, get_or_default (x ∷ xs) k (get_or (x ∷ xs) k x) x within, has x), λ some. refl)
any_told P xs false none =
    (λ yes. absurd (let no : false ≡ true = yes in cc), λ (k, x, within, is, has). absurd (none k x (omega arith) within (subst P (sym is) has)))

pub none_unless : {X : Type 0} (o : Option X) → ((x : X) → o ≡ Some x → ⊥) → o ≡ None
none_unless None not = refl
none_unless (Some x) not = absurd (not x refl)

-- what one element more gives
pub flat_map-next : {X A : Type 0} (f : X → List A) (front : List A) (xs : List X) (i : ℕ) (x : X) → slice_get xs i ≡ Some x
    → (front ++ flat_map f (take i xs)) ++ f x ≡ front ++ flat_map f (take (i + 1) xs)
flat_map-next f front xs i x at =
    let cut = take_more xs i x (slice_get_within xs i x at) in
    flat_map_more f front (take i xs) x ∙ ap (λ l. front ++ flat_map f l) (sym (cut ∙ ap (λ y. take i xs ++ y ∷ []) (get_or_from_slice_get xs i x x at)))

-- what the images of a list give
pub flat_map-map : {X Y A : Type 0} (f : Y → List A) (g : X → Y) (xs : List X) → flat_map f (map g xs) ≡ flat_map (λ x. f (g x)) xs
flat_map-map f g [] = refl
flat_map-map f g (x ∷ xs) = ap (λ l. f (g x) ++ l) (flat_map-map f g xs)
