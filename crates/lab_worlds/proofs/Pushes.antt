-- Lists with one more element, and pairs of lists.
use Rattle.std.proofs.Common.{ℕ, zero, suc, ◌≡◌, ◌+◌, ◌<◌, get_or, All, List, [], ◌∷◌, ◌++◌, Option, Some, refl, sym, subst, slice_get, length, set, inl, inr, rules}
use Rattle.std.specs.List.{AllWithin}
use Rattle.std.proofs.lemmas.Bool.Decides.{eqb_tells}
use Rattle.std.proofs.lemmas.List.Elements.{AllWithin-more}
use Rattle.std.proofs.lemmas.Option.{slice_get_read, slice_get_within, get_or_from_slice_get}
use Rattle.lab_sched.proofs.ListPlaces.{get-set_same, get-set_other, get_past}
use Rattle.lab_worlds.specs.Calls.{Both, Alongside}
use Rattle.lab_worlds.specs.Private.Kept.{Keeps}

pub keeps_push : {A : Type 0} (xs : List A) (x : A) → Keeps xs (xs ++ x ∷ [])
keeps_push [] x i y e = absurd (cc)
keeps_push (z ∷ zs) x zero y e = e
keeps_push (z ∷ zs) x (suc i) y e = keeps_push zs x i y e

pub get_pushed : {A : Type 0} (xs : List A) (x : A) → slice_get (xs ++ x ∷ []) (length xs) ≡ Some x
get_pushed [] x = refl
get_pushed (z ∷ zs) x = get_pushed zs x

-- what holds of each element holds of the one at a place
pub all_at : {A : Type 0} (P : A → Type 0) (xs : List A) (i : ℕ) (x : A) → All P xs → slice_get xs i ≡ Some x → P x
all_at P xs i x h e = subst P (get_or_from_slice_get xs i x x e) (h i x (slice_get_within xs i x e))

-- what holds of each element before a place, and of the one there
pub within_more : {A : Type 0} (P : A → Type 0) (xs : List A) (i : ℕ) (x : A) → AllWithin P xs 0 i → slice_get xs i ≡ Some x → P x → AllWithin P xs 0 (i + 1)
within_more P xs i x h is here = AllWithin-more P xs 0 i h (λ d. subst P (sym (get_or_from_slice_get xs i x d is)) here)

pub both_weaker : {A B : Type 0} (R Q : A → B → Type 0) → ((x : A) (y : B) → R x y → Q x y) → (a : Option A) (b : Option B) → Both R a b → Both Q a b
both_weaker x y w z u h = search rules

-- what holds at a place, and at another, holds at each
pub at_or_other : (P : ℕ → Type 0) (p j : ℕ) → P p → ((p ≡ j → ⊥) → P j) → P j
at_or_other P p j here there = elim (eqb_tells p j) [ inl same ↦ subst P same.1 here | inr other ↦ there other.1 ]

pub alongside_set : {A B : Type 0} (R : A → B → Type 0) (xs : List A) (ys : List B) (p : ℕ) (a x : A) (b y : B) → slice_get xs p ≡ Some a → slice_get ys p ≡ Some b
    → Alongside R xs ys → R x y → Alongside R (set xs p x) (set ys p y)
alongside_set R xs ys p a x b y ea eb h r j = search (rules, at_or_other, get-set_same, get_past, get-set_other)

-- an element that was read
pub got : {A : Type 0} (xs ys : List A) (i : ℕ) (x : A) → xs ≡ ys → i < length xs → x ≡ get_or xs i x → slice_get ys i ≡ Some x
got xs ys i x same within read = subst (λ zs. slice_get zs i ≡ Some x) same (slice_get_read xs (length xs) i x refl within read)

pub alongside_cons : {A B : Type 0} (R : A → B → Type 0) (x : A) (y : B) (xs : List A) (ys : List B) → R x y → Alongside R xs ys → Alongside R (x ∷ xs) (y ∷ ys)
alongside_cons R x y xs ys h r zero = h
alongside_cons R x y xs ys h r (suc p) = r p

pub alongside_push : {A B : Type 0} (R : A → B → Type 0) (xs : List A) (ys : List B) (x : A) (y : B) → Alongside R xs ys → R x y → Alongside R (xs ++ x ∷ []) (ys ++ y ∷ [])
alongside_push R [] [] x y h r zero = r
alongside_push R [] [] x y h r (suc p) = tt
alongside_push R (a ∷ xs) (b ∷ ys) x y h r zero = h 0
alongside_push R (a ∷ xs) (b ∷ ys) x y h r (suc p) = alongside_push R xs ys x y (λ q. h (suc q)) r p
alongside_push R _ _ x y h r p = absurd (h 0)
