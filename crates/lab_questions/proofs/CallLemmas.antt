-- What is asked of calls, one by one.
use Rattle.std.proofs.Common.{ℕ, ◌≡◌, ◌<◌, ◌+◌, Bool, List, [], ◌∷◌, ◌++◌, Result, IfOk, map, flat_map, get_or, length, take, cond, refl, sym, ap, ◌∙◌, append-nil, rules}
use Rattle.std.specs.List.{slice_split, onto_first}
use Rattle.std.proofs.lemmas.Grind.{flat_map-append}
use Rattle.std.proofs.lemmas.List.{take_more, map-append}

-- one thing more that is read from a piece
pub read_more : {A B : Type 0} (written : A → B) (old new : List A) (xs : List B) (i : ℕ) (x : A) (none : B) → new ≡ old ++ x ∷ []
    → take i xs ≡ map written old → i < length xs → get_or xs i none ≡ written x → take (i + 1) xs ≡ map written new
read_more written old new xs i x none added before within is =
    take_more xs i none within ∙ ap (λ y. take i xs ++ y ∷ []) is ∙ ap (λ l. l ++ written x ∷ []) before
    ∙ sym (ap (map written) added ∙ map-append written old (x ∷ []))

-- what one word more gives
pub given_more : {A B : Type 0} (f : A → List B) (old new : List B) (xs : List A) (i : ℕ) (x none : A) → new ≡ old ++ f x → old ≡ flat_map f (take i xs)
    → i < length xs → get_or xs i none ≡ x → new ≡ flat_map f (take (i + 1) xs)
given_more f old new xs i x none added before within is =
    added ∙ ap (λ l. l ++ f x) before
    ∙ sym (ap (flat_map f) (take_more xs i none within ∙ ap (λ y. take i xs ++ y ∷ []) is)
    ∙ flat_map-append f (take i xs) (x ∷ []) ∙ ap (λ l. flat_map f (take i xs) ++ l) (append-nil (f x)))

onto : {A B : Type 0} (f : A → B) (x : A) (parts : List (List A)) → map (map f) (onto_first x parts) ≡ onto_first (f x) (map (map f) parts)
onto f x y = search rules

split_by : {A B : Type 0} (f : A → B) (x : A) (rest : List (List A)) (seen : List (List B)) (b : Bool) → map (map f) rest ≡ seen
    → map (map f) (cond b ([] ∷ rest) (onto_first x rest)) ≡ cond b ([] ∷ seen) (onto_first (f x) seen)
split_by f x rest seen y e = search rules

-- pieces of a list that is seen by a function are the pieces of what it sees
pub split-map : {A B : Type 0} (f : A → B) (p : B → Bool) (xs : List A) → map (map f) (slice_split (λ x. p (f x)) xs) ≡ slice_split p (map f xs)
split-map f p [] = refl
split-map f p (x ∷ xs) = split_by f x (slice_split (λ x. p (f x)) xs) (slice_split p (map f xs)) (p (f x)) (split-map f p xs)

-- what holds of a value holds of what follows from it
pub if_ok : {A E : Type 0} (P Q : A → Type 0) (r : Result A E) → ((v : A) → P v → Q v) → IfOk r P → IfOk r Q
if_ok x y z f h = search rules

pub map-twice : {A B C : Type 0} (f : B → C) (g : A → B) (xs : List A) → map (λ x. f (g x)) xs ≡ map f (map g xs)
map-twice f g [] = refl
map-twice f g (x ∷ xs) = ap (λ ys. f (g x) ∷ ys) (map-twice f g xs)
