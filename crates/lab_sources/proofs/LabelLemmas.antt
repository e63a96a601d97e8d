-- Labels one after the other.
use Rattle.std.proofs.Common.{◌≡◌, ℕ, ◌+◌, Bool, true, false, List, [], ◌∷◌, Option, Some, None, drop, length, find, slice_get, refl, sym, ap, ◌∙◌}
use Rattle.std.proofs.lemmas.List.{drop_more}
use Rattle.std.proofs.lemmas.Option.{slice_get_within, get_or_from_slice_get}
use Rattle.lab_sources.specs.Labels.{or_higher, highest_up_to}

-- an element, and those behind it
drop_at : {A : Type 0} (xs : List A) (i : ℕ) (x : A) → slice_get xs i ≡ Some x → drop i xs ≡ x ∷ drop (i + 1) xs
drop_at xs i x is = drop_more xs i x (slice_get_within xs i x is) ∙ ap (λ y. y ∷ drop (i + 1) xs) (get_or_from_slice_get xs i x x is)

pub find_here : {A : Type 0} (p : A → Bool) (xs : List A) (i : ℕ) (x : A) → slice_get xs i ≡ Some x → p x ≡ true → find p (drop i xs) ≡ Some x
find_here p xs i x is e = rw (drop_at xs i x is, e) refl

pub find_behind : {A : Type 0} (p : A → Bool) (xs : List A) (i : ℕ) (x : A) → slice_get xs i ≡ Some x → p x ≡ false → find p (drop i xs) ≡ find p (drop (i + 1) xs)
find_behind p xs i x is e = rw (drop_at xs i x is, e) refl

-- a label more at the front
pub highest_more : (a : ℕ) (ls : List (List ℕ × ℕ)) (i n : ℕ) (l : List ℕ × ℕ) (found : Option (List ℕ × ℕ)) → slice_get ls i ≡ Some l
    → i + 1 ≡ n → found ≡ highest_up_to a (drop n ls) → or_higher a l found ≡ highest_up_to a (drop i ls)
unfolding highest_up_to
highest_more a ls i n l found is next rest = ap (or_higher a l) (rest ∙ ap (λ k. highest_up_to a (drop k ls)) (sym next)) ∙ sym (ap (highest_up_to a) (drop_at ls i l is))

pub highest_none : (a : ℕ) (ls : List (List ℕ × ℕ)) → None ≡ highest_up_to a (drop (length ls) ls)
unfolding highest_up_to
highest_none a [] = refl
highest_none a (l ∷ ls) = highest_none a ls
