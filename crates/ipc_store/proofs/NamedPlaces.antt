-- Places where each object has a name: what is written into one leaves them so, and leaves each name where it was.
use Rattle.std.proofs.Common.{subst, inl, inr, ◌≡◌, ℕ, Bool, true, false, ◌||◌, ◌&&◌, List, [], ◌∷◌, zero, suc, length-set, set, Option, Some, None, unwrap_or, slice_get, position, refl, sym, ap, ◌∙◌, rules}
use Rattle.std.specs.List.{list_all}
use Rattle.ipc_kernel.specs.declared.place.Place.{Place}
use Rattle.ipc_kernel.specs.declared.place.Place.TheVariants.{Empty}
use Rattle.ipc_kernel.specs.Places.{place_at, is_empty, has_name, is_name, queue_name, semaphore_name, place_named, queue_named, semaphore_named}
use Rattle.ipc_kernel.specs.declared.call.Call.{Call}
use Rattle.ipc_kernel.specs.declared.call.Call.TheVariants.{MqOpen, SemOpen}
use Rattle.ipc_kernel.specs.Operands.{are_named}
use Rattle.ipc_kernel.proofs.PlaceLemmas.{first_empty_place}
use Rattle.ipc_store.proofs.WorkPlaces.{Lookup, New, Finds, MayLeave, is_open, new_object}
use Rattle.std.proofs.lemmas.Bool.{and_parts}
use Rattle.std.proofs.lemmas.List.Folds.{position_or_len-set}
use Rattle.std.proofs.lemmas.List.Quantifiers.{position-Some}
use Rattle.std.proofs.lemmas.Option.{unwrap_or-slice_get}
use Rattle.ipc_store.proofs.SettledTables.{all_at}
use Rattle.ipc_kernel.proofs.IndexLemmas.{is_name-true}

-- whether what is in a place is nothing, or has a name
abbrev pub is_named : Place → Bool
is_named p = is_empty p || has_name p

-- the place with a name, as it is found
pub name_found : (name_of : Place → Option (List ℕ)) (ps : List Place) (n : List ℕ) (i : ℕ) → place_named name_of ps n ≡ Some i → name_of (place_at ps i) ≡ Some n
name_found name_of ps n i e = ap name_of (unwrap_or-slice_get ps i Empty) ∙ is_name-true n _ (position-Some (λ p. is_name n (name_of p)) ps i Empty e).1

-- each object of the second places has a name, and each name of the first stands in its place
pub record KeepNames (ps qs : List Place) : Type 0 where
  pub named : are_named qs ≡ true
  pub queues : (n : List ℕ) (i : ℕ) → queue_named ps n ≡ Some i → queue_named qs n ≡ Some i
  pub semaphores : (n : List ℕ) (i : ℕ) → semaphore_named ps n ≡ Some i → semaphore_named qs n ≡ Some i

pub names_kept : (ps : List Place) → are_named ps ≡ true → KeepNames ps ps
names_kept ps named = record { named = named; queues = λ n i e. e; semaphores = λ n i e. e }

-- what each passes, all pass
pub all_by : {A : Type 0} (test : A → Bool) (xs : List A) (d : A) → ((i : ℕ) → test (unwrap_or (slice_get xs i) d) ≡ true) → list_all test xs ≡ true
all_by test [] d each = refl
all_by test (x ∷ xs) d each = ap (λ b. b && list_all test xs) (each 0) ∙ all_by test xs d (λ i. each (suc i))

pub all_set : {A : Type 0} (test : A → Bool) (xs : List A) (i : ℕ) (y : A) → test y ≡ true → list_all test xs ≡ true → list_all test (set xs i y) ≡ true
all_set test [] i y new e = refl
all_set test (x ∷ xs) zero y new e = ap (λ b. b && list_all test xs) new ∙ (and_parts (test x) (list_all test xs) e).1
all_set test (x ∷ xs) (suc i) y new e =
    let parts = and_parts (test x) (list_all test xs) e in ap (λ b. b && list_all test (set xs i y)) parts.0 ∙ all_set test xs i y new parts.1

-- the first that passes a test stays it, where what is written passes as what was there did
pub position_set : {A : Type 0} (test : A → Bool) (xs : List A) (i : ℕ) (y d : A) → test y ≡ test (unwrap_or (slice_get xs i) d) → position test (set xs i y) ≡ position test xs
position_set test xs i y d same = rw (position_or_len-set test xs i y d (same ∙ ap test (unwrap_or-slice_get xs i d)), length-set xs i y) refl

-- names stay where they are, where what is written has those of what was there, as far as they are found
keeps_written : (ps : List Place) (i : ℕ) (y : Place) → are_named ps ≡ true → is_named y ≡ true
    → ((n : List ℕ) (m : ℕ) → queue_named ps n ≡ Some m → is_name n (queue_name y) ≡ is_name n (queue_name (place_at ps i)))
    → ((n : List ℕ) (m : ℕ) → semaphore_named ps n ≡ Some m → is_name n (semaphore_name y) ≡ is_name n (semaphore_name (place_at ps i)))
    → KeepNames ps (set ps i y)
keeps_written ps i y named new queues semaphores = record {
  named = all_set is_named ps i y new named;
  queues = λ n m e. position_set (λ p. is_name n (queue_name p)) ps i y Empty (queues n m e) ∙ e;
  semaphores = λ n m e. position_set (λ p. is_name n (semaphore_name p)) ps i y Empty (semaphores n m e) ∙ e;
}

-- a name that is found isn't one that isn't
other_name : (name_of : Place → Option (List ℕ)) (ps : List Place) (name n : List ℕ) (m : ℕ) → place_named name_of ps name ≡ None → place_named name_of ps n ≡ Some m → is_name n (Some name) ≡ false
other_name name_of ps name n m absent e = search rules

-- a new object with a name that none had
keeps_made : (ps : List Place) (i : ℕ) (c : Call) → are_named ps ≡ true → is_open c ≡ true → Finds c ps i New → KeepNames ps (set ps i (new_object c))
keeps_made ps i (MqOpen name flags attr) named opens finds = search (rules, first_empty_place, keeps_written, other_name)
keeps_made ps i (SemOpen name flags value) named opens finds = search (rules, first_empty_place, keeps_written, other_name)
keeps_made ps i other named opens finds = absurd (cc)

-- what a call leaves
pub keeps_left : (ps : List Place) (i : ℕ) (c : Call) (l : Lookup) (x : Place) → are_named ps ≡ true → Finds c ps i l → MayLeave c l (place_at ps i) x → KeepNames ps (set ps i x)
keeps_left ps i c l x named finds (inl kind) = keeps_written ps i x named
    (ap (λ b. b || has_name x) kind.0.filled ∙ ap (λ b. is_empty (place_at ps i) || b) kind.0.named ∙ all_at is_named ps i Empty refl named)
    (λ n m e. ap (is_name n) kind.0.queue) (λ n m e. ap (is_name n) kind.0.semaphore)
keeps_left ps i c l x named finds (inr new) =
    subst (λ y. KeepNames ps (set ps i y)) (sym new.2) (keeps_made ps i c named new.0 (subst (λ m. Finds c ps i m) new.1 finds))
