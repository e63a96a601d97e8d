-- Words, one by one.
use Rattle.std.proofs.Common.{◌≡◌, ℕ, ◌≤◌, Bool, List, [], ◌∷◌, ◌++◌, length, drop, map, refl, ap, append-nil, arith, cond, Result, IfOk, Bor, rules}
use Rattle.std.specs.List.{flat_map, slice_split, onto_first}
use Rattle.std.proofs.lemmas.List.{drop_all}
use Rattle.lab_conditions.specs.Written.{spaced}
use Rattle.std.proofs.lemmas.Grind.{common_steps}

-- words with a blank before each
abbrev pub later : List (Bor (List ℕ)) → List ℕ
later words = flat_map (λ w. 32 ∷ w.now) words

pub later-end : (bytes : List ℕ) (words : List (Bor (List ℕ))) (i : ℕ) → length words ≤ i → bytes ++ later (drop i words) ≡ bytes
later-end bytes words i h = rw (drop_all i words h) (append-nil bytes)

later-map : (words : List (Bor (List ℕ))) → later words ≡ flat_map (λ w. 32 ∷ w) (map (λ w. w.now) words)
later-map [] = refl
later-map (w ∷ rest) = ap (λ bytes. (32 ∷ w.now) ++ bytes) (later-map rest)

pub spaced-first : (w : Bor (List ℕ)) (rest : List (Bor (List ℕ))) → w.now ++ later rest ≡ spaced (map (λ w. w.now) (w ∷ rest))
spaced-first w rest = ap (λ bytes. w.now ++ bytes) (later-map rest)

pub spaced-none : (words : List (Bor (List ℕ))) → length words ≡ 0 → [] ≡ spaced (map (λ w. w.now) words)
spaced-none x h = grind (arith, common_steps)

onto : {A B : Type 0} (f : A → B) (x : A) (parts : List (List A)) → map (map f) (onto_first x parts) ≡ onto_first (f x) (map (map f) parts)
onto f x y = search rules

split_by : {A B : Type 0} (f : A → B) (x : A) (rest : List (List A)) (seen : List (List B)) (b : Bool) → map (map f) rest ≡ seen
    → map (map f) (cond b ([] ∷ rest) (onto_first x rest)) ≡ cond b ([] ∷ seen) (onto_first (f x) seen)
split_by f x rest seen y e = search rules

-- pieces of a list that is seen by a function are the pieces of what it sees
pub split-map : {A B : Type 0} (f : A → B) (p : B → Bool) (xs : List A) → map (map f) (slice_split (λ x. p (f x)) xs) ≡ slice_split p (map f xs)
split-map f p [] = refl
split-map f p (x ∷ xs) = split_by f x (slice_split (λ x. p (f x)) xs) (slice_split p (map f xs)) (p (f x)) (split-map f p xs)

-- what holds of a value holds of what follows from it
pub if_ok : {A E : Type 0} (P Q : A → Type 0) (r : Result A E) → ((v : A) → P v → Q v) → IfOk r P → IfOk r Q
if_ok x y z f h = search rules

pub map-twice : {A B C : Type 0} (f : B → C) (g : A → B) (xs : List A) → map (λ x. f (g x)) xs ≡ map f (map g xs)
map-twice f g [] = refl
map-twice f g (x ∷ xs) = ap (λ ys. f (g x) ∷ ys) (map-twice f g xs)
