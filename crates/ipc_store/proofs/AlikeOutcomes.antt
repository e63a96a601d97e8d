-- Outcomes of one call over two kernels that are alike.
use Rattle.std.proofs.Common.{◌≡◌, ℕ, ◌<◌, false, List, length, set, Option, Some, None, refl, sym, ap, subst, ◌∙◌, position, arith, rules}
use Rattle.std.specs.Option.{option_map}
use Rattle.std.proofs.lemmas.Option.{unwrap_or-slice_get}
use Rattle.std.proofs.lemmas.List.{map-set}
use Rattle.std.proofs.lemmas.List.Quantifiers.{position-Some}
use Rattle.ipc_kernel.specs.declared.place.Place.{Place}
use Rattle.ipc_kernel.specs.declared.place.Place.TheVariants.{Empty}
use Rattle.ipc_kernel.specs.declared.process.OpenTables.{OpenTables}
use Rattle.ipc_kernel.specs.declared.call.Reply.{Reply}
use Rattle.ipc_kernel.specs.declared.call.Reply.TheVariants.{Plain}
use Rattle.ipc_kernel.specs.Processes.{process_at, process_refers}
use Rattle.ipc_kernel.specs.Places.{place_at, is_empty, queue_name, semaphore_name, place_named, without_name}
use Rattle.ipc_kernel.specs.Kernel.{KernelState}
use Rattle.ipc_kernel.specs.Outcomes.{Outcome, completion, unlink}
use Rattle.ipc_kernel.specs.Alike.{renamed_process, IsRenaming, IsAlike, AreDistinct, IsConsistent}
use Rattle.ipc_kernel.proofs.PlaceLemmas.{first_empty_place}
use Rattle.ipc_kernel.proofs.IndexLemmas.{is_name-itself, position_there, place_within}
use Rattle.ipc_store.proofs.Alikes.{renaming_to, renaming_done, renaming_place, renaming_processes}
use Rattle.ipc_store.proofs.Consistents.{IsFree, consistent_done, consistent_place, consistent_tables}
use Rattle.ipc_store.proofs.NamedPlaces.{name_found}
use Rattle.ipc_store.proofs.WorkPlaces.{Lookup, Named, New, Nowhere, IsFound, found}
use Rattle.std.proofs.lemmas.Grind.{common_steps}

-- a consistent kernel, and the same with its places renamed
pub record IsTwin (f g : ℕ → ℕ) (k j : KernelState) : Type 0 where
  pub consistent : IsConsistent k
  pub renaming : IsRenaming f g k j

-- the same answer, a consistent kernel, and one that is alike
pub record AreLike (o q : Outcome) : Type 0 where
  pub answer : o.0 ≡ q.0
  pub consistent : IsConsistent o.1
  pub alike : IsAlike o.1 q.1

pub like_done : (f g : ℕ → ℕ) (k j : KernelState) → IsTwin f g k j → (r : Reply) → AreLike (completion k r) (completion j r)
like_done f g k j t r = record { answer = refl; consistent = consistent_done k t.consistent; alike = (f, g, renaming_done f g k j t.renaming) }

-- the name of an object is at its place alone
pub own_name : (name_of : Place → Option (List ℕ)) (ps : List Place) (a : ℕ) (x : Place) → AreDistinct name_of ps → ((n : List ℕ) → name_of x ≡ Some n → name_of (place_at ps a) ≡ Some n) → IsFree name_of ps a x
own_name name_of ps a x distinct same i n e there = distinct i a n there (same n e)

-- a place of both is written
pub twin_place : (f g : ℕ → ℕ) (k j : KernelState) → IsTwin f g k j → (i : ℕ) (x : Place) → (x ≡ Empty → place_at k.places i ≡ Empty) → IsFree queue_name k.places i x → IsFree semaphore_name k.places i x
    → IsTwin f g (record k { places = set k.places i x }) (record j { places = set j.places (f i) x })
twin_place f g k j t i x filled queues semaphores = record {
  consistent = consistent_place k t.consistent i x filled queues semaphores;
  renaming = renaming_place f g k j t.renaming t.consistent.count i x;
}

-- tables of both are written
pub twin_tables : (f g : ℕ → ℕ) (k j : KernelState) → IsTwin f g k j → (p : ℕ) (u : OpenTables)
    → ((n : ℕ) → place_at k.places n ≡ Empty → process_refers n (process_at k.processes p) ≡ false → process_refers n u ≡ false)
    → IsTwin f g (record k { processes = set k.processes p u }) (record j { processes = set j.processes p (renamed_process f u) })
twin_tables f g k j t p u refers = record {
  consistent = consistent_tables k t.consistent p u refers;
  renaming = renaming_processes f g k j t.renaming _ _ (ap (λ ps. set ps p (renamed_process f u)) t.renaming.processes ∙ sym (map-set (renamed_process f) k.processes p u));
}

-- a place without its name is empty if it was, and has no name but that
unnamed : (p : Place) → (without_name p ≡ Empty → p ≡ Empty) × ((n : List ℕ) → queue_name (without_name p) ≡ Some n → queue_name p ≡ Some n)
    × ((n : List ℕ) → semaphore_name (without_name p) ≡ Some n → semaphore_name p ≡ Some n)
unnamed x = search rules

pub like_unlinked : (f g : ℕ → ℕ) (k j : KernelState) → IsTwin f g k j → (o : Option ℕ) → AreLike (unlink k o) (unlink j (option_map f o))
like_unlinked f g k j t None = record { answer = refl; consistent = t.consistent; alike = (f, g, t.renaming) }
like_unlinked f g k j t (Some a) =
    let p = place_at k.places a in
    let u = unnamed p in
    subst (λ x. AreLike (unlink k (Some a)) (completion (record j { places = set j.places (f a) (without_name x) }) (Plain 0))) (sym (t.renaming.places a))
    (like_done f g _ _ (twin_place f g k j t a (without_name p) u.0 (own_name queue_name k.places a (without_name p) t.consistent.queues u.1)
    (own_name semaphore_name k.places a (without_name p) t.consistent.semaphores u.2)) (Plain 0))

-- a name that isn't found stands nowhere
pub not_named : (name_of : Place → Option (List ℕ)) (ps : List Place) (n : List ℕ) (i : ℕ) → name_of Empty ≡ None → place_named name_of ps n ≡ None → name_of (place_at ps i) ≡ Some n → ⊥
not_named name_of ps n i nameless none there = grind (arith, common_steps, position_there, place_within, is_name-itself, unwrap_or-slice_get)

-- both find a name in the same place
pub found_named : (f g : ℕ → ℕ) (k j : KernelState) → IsRenaming f g k j → (name_of : Place → Option (List ℕ)) → name_of Empty ≡ None → AreDistinct name_of k.places → (n : List ℕ)
    → place_named name_of j.places n ≡ option_map f (place_named name_of k.places n)
found_named f g k j r name_of nameless distinct n = go (place_named name_of k.places n) (place_named name_of j.places n) refl refl
  where
    back : (b : ℕ) → place_named name_of j.places n ≡ Some b → name_of (place_at k.places (g b)) ≡ Some n
    back b e = ap name_of (sym (r.places (g b)) ∙ ap (place_at j.places) (r.permutation.redone b)) ∙ name_found name_of j.places n b e

    go : (o q : Option ℕ) → place_named name_of k.places n ≡ o → place_named name_of j.places n ≡ q → q ≡ option_map f o
    go None None e d = refl
    go None (Some b) e d = absurd (not_named name_of k.places n (g b) nameless e (back b d))
    go (Some a) None e d = absurd (not_named name_of j.places n (f a) nameless d (ap name_of (r.places a) ∙ name_found name_of k.places n a e))
    go (Some a) (Some b) e d = ap (λ i. Some i) (sym (r.permutation.redone b) ∙ ap f (distinct (g b) a n (back b d) (name_found name_of k.places n a e)))

empty_there : (ps : List Place) (i : ℕ) → length ps ≡ 64 → i < 64 → place_at ps i ≡ Empty → position is_empty ps ≡ None → ⊥
empty_there ps i count h e none = position_there is_empty ps i Empty (omega arith) (ap is_empty (sym (unwrap_or-slice_get ps i Empty) ∙ e)) none

empty_within : (ps : List Place) (i : ℕ) → length ps ≡ 64 → position is_empty ps ≡ Some i → i < 64
empty_within ps i count e = let found = (position-Some is_empty ps i Empty e).0 in omega arith

-- what an open finds in both, by a renaming of the one
abbrev pub BothFind : KernelState → KernelState → (Place → Option (List ℕ)) → List ℕ → Type 0
BothFind k j name_of n = (i : ℕ) × (l : Lookup) × (h : ℕ → ℕ) × (m : ℕ → ℕ) × IsRenaming h m k j × IsFound name_of n k.places i l × IsFound name_of n j.places (h i) l

-- that which takes the least empty place of the one to that of the other, where no object has the name
pub found_both : (f g : ℕ → ℕ) (k j : KernelState) → IsTwin f g k j → (name_of : Place → Option (List ℕ)) → name_of Empty ≡ None → AreDistinct name_of k.places → (n : List ℕ)
    → BothFind k j name_of n
found_both f g k j t name_of nameless distinct n = let x = found name_of k.places n in by x.0 x.1 x.2
  where
    r : IsRenaming f g k j
    r = t.renaming

    first : length k.places ≡ 64
    first = t.consistent.count

    second : length j.places ≡ 64
    second = r.count ∙ first

    absent : place_named name_of k.places n ≡ None → place_named name_of j.places n ≡ None
    absent e = found_named f g k j r name_of nameless distinct n ∙ ap (option_map f) e

    by : (i : ℕ) (l : Lookup) → IsFound name_of n k.places i l → BothFind k j name_of n
    by i Named e = (i, Named, f, g, r, e, found_named f g k j r name_of nameless distinct n ∙ ap (option_map f) e)
    by i New e = new (position is_empty j.places) refl
      where
        less : i < 64
        less = empty_within k.places i first e.1

        new : (o : Option ℕ) → position is_empty j.places ≡ o → BothFind k j name_of n
        new (Some b) d =
            let to = renaming_to f g k j i b t.consistent r less (empty_within j.places b second d) (first_empty_place k.places i e.1) (first_empty_place j.places b d) in
            (i, New, to.0, to.1, to.2, e, (absent e.0, d ∙ ap Some (sym to.3)))
        new None d = absurd (empty_there j.places (f i) second ((r.permutation.within i).1 less) (r.places i ∙ first_empty_place k.places i e.1) d)
    by i Nowhere e = nowhere (position is_empty j.places) refl
      where
        nowhere : (o : Option ℕ) → position is_empty j.places ≡ o → BothFind k j name_of n
        nowhere None d = (i, Nowhere, f, g, r, e, (absent e.0, d))
        nowhere (Some b) d = absurd (empty_there k.places (g b) first ((r.permutation.within (g b)).0 (subst (λ n. n < 64) (sym (r.permutation.redone b)) (empty_within j.places b second d)))
            (sym (r.places (g b)) ∙ ap (place_at j.places) (r.permutation.redone b) ∙ first_empty_place j.places b d) e.1)
