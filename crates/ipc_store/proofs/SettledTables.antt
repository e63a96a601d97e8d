-- Kernels in which other tables of a process leave each place as it was.
use Rattle.std.proofs.Common.{◌≡◌, ℕ, Bool, true, false, ◌||◌, List, [], ◌∷◌, zero, suc, replicate, get_or, set, Some, unwrap_or, slice_get, refl, sym, ap, ◌∙◌, rules}
use Rattle.std.specs.List.{list_any, list_all}
use Rattle.std.proofs.lemmas.Bool.{and_parts, or_parts}
use Rattle.std.proofs.lemmas.Option.{unwrap_or-slice_get}
use Rattle.ipc_kernel.specs.declared.place.Place.{Place}
use Rattle.ipc_kernel.specs.declared.place.Place.TheVariants.{Empty}
use Rattle.ipc_kernel.specs.declared.process.OpenTables.{OpenTables}
use Rattle.ipc_kernel.specs.Places.{place_at, is_empty, has_name, place_or_empty, places_or_empty}
use Rattle.ipc_kernel.specs.Operands.{are_named}
use Rattle.ipc_kernel.proofs.KernelLemmas.{settled_by}

-- an element that was written is read
pub get_set : {A : Type 0} (xs : List A) (i : ℕ) (x y : A) → slice_get xs i ≡ Some x → slice_get (set xs i y) i ≡ Some y
get_set [] i x y e = absurd (cc)
get_set (z ∷ xs) zero x y e = refl
get_set (z ∷ xs) (suc i) x y e = get_set xs i x y e

-- a test that the written element passes as the old one did is passed by as many
pub any_set : {A : Type 0} (test : A → Bool) (xs : List A) (i : ℕ) (y d : A) → test y ≡ test (unwrap_or (slice_get xs i) d) → list_any test (set xs i y) ≡ list_any test xs
any_set test [] i y d same = refl
any_set test (z ∷ xs) zero y d same = ap (λ b. b || list_any test xs) same
any_set test (z ∷ xs) (suc i) y d same = ap (λ b. test z || b) (any_set test xs i y d same)

-- a test that none passes
pub none_at : {A : Type 0} (q : A → Bool) (d : A) → q d ≡ false → (xs : List A) (i : ℕ) → list_any q xs ≡ false → q (unwrap_or (slice_get xs i) d) ≡ false
none_at q d is [] i e = is
none_at q d is (x ∷ xs) zero e = (or_parts (q x) (list_any q xs) e).0
none_at q d is (x ∷ xs) (suc i) e = none_at q d is xs i (or_parts (q x) (list_any q xs) e).1

-- what all pass, one of them passes
pub all_at : {A : Type 0} (test : A → Bool) (xs : List A) (i : ℕ) (d : A) → test d ≡ true → list_all test xs ≡ true → test (unwrap_or (slice_get xs i) d) ≡ true
all_at test [] i d past e = past
all_at test (x ∷ xs) zero d past e = (and_parts (test x) (list_all test xs) e).0
all_at test (x ∷ xs) (suc i) d past e = all_at test xs i d past (and_parts (test x) (list_all test xs) e).1

-- where each object has a name, each place is left as it was, whatever refers to it
pub place_kept : (ps : List OpenTables) (n : ℕ) (x : Place) → (is_empty x || has_name x) ≡ true → place_or_empty ps n x ≡ x
place_kept ps n x e = search rules

pub settled_named : (ps : List OpenTables) (places : List Place) → are_named places ≡ true → places_or_empty ps places ≡ places
settled_named ps places e = settled_by ps places (λ n h. place_kept ps n (get_or places n Empty) (ap (λ p. is_empty p || has_name p) (sym (unwrap_or-slice_get places n Empty)) ∙ all_at (λ p. is_empty p || has_name p) places n Empty refl e))

-- empty places
pub place_at-empties : (m i : ℕ) → place_at (replicate m Empty) i ≡ Empty
place_at-empties zero i = refl
place_at-empties (suc m) zero = refl
place_at-empties (suc m) (suc i) = place_at-empties m i

pub empty_named : (m : ℕ) → are_named (replicate m Empty) ≡ true
empty_named zero = refl
empty_named (suc m) = empty_named m
