-- Consistent kernels, and what each change makes of one.
use Rattle.std.proofs.Common.{◌≡◌, ℕ, false, List, set, Option, Some, None, zero, suc, replicate, refl, sym, ap, ◌∙◌, arith, rules}
use Rattle.std.proofs.lemmas.Bool.{cases_lt}
use Rattle.std.proofs.lemmas.Bool.Decides.{eqb_tells}
use Rattle.std.proofs.lemmas.List.{length-replicate}
use Rattle.ipc_kernel.specs.declared.place.Place.{Place}
use Rattle.ipc_kernel.specs.declared.place.Place.TheVariants.{Empty}
use Rattle.ipc_kernel.specs.declared.process.OpenTables.{OpenTables}
use Rattle.ipc_kernel.specs.Processes.{process_at, process_refers, is_referred, closed_process}
use Rattle.ipc_kernel.specs.Places.{place_at, place_or_empty, queue_name, semaphore_name}
use Rattle.ipc_kernel.specs.Kernel.{KernelState, empty_kernel}
use Rattle.ipc_kernel.specs.Alike.{AreDistinct, IsConsistent}
use Rattle.ipc_kernel.proofs.PlaceLemmas.{length-emptied}
use Rattle.ipc_kernel.proofs.IndexLemmas.{place_at-set_same, place_at-set_other, place_at-past}
use Rattle.ipc_store.proofs.Alikes.{done, place_at-emptied}
use Rattle.ipc_store.proofs.Renamings.{nobody}
use Rattle.ipc_store.proofs.SettledTables.{any_set, none_at, place_at-empties}
use Rattle.std.proofs.lemmas.Grind.{common_steps}

-- a place that the rule leaves is the place, or it is empty
kept_name : (name_of : Place → Option (List ℕ)) → name_of Empty ≡ None → (processes : List OpenTables) (i : ℕ) (p : Place) (n : List ℕ) → name_of (place_or_empty processes i p) ≡ Some n → name_of p ≡ Some n
kept_name name_of nameless processes i p n e = search rules

kept_referred : (processes : List OpenTables) (i : ℕ) (p : Place) → place_or_empty processes i p ≡ Empty → (p ≡ Empty → is_referred processes i ≡ false) → is_referred processes i ≡ false
kept_referred processes i p e h = search rules

distinct_done : (name_of : Place → Option (List ℕ)) → name_of Empty ≡ None → (k : KernelState) → AreDistinct name_of k.places → AreDistinct name_of (done k).places
distinct_done name_of nameless k s i j n a b = grind (arith, common_steps, done, kept_name, place_at-emptied)

pub consistent_done : (k : KernelState) → IsConsistent k → IsConsistent (done k)
consistent_done k s = grind (arith, common_steps, length-emptied, kept_referred, place_at-emptied, distinct_done)

-- no place but a has the name of x
abbrev pub IsFree : (Place → Option (List ℕ)) → List Place → ℕ → Place → Type 0
IsFree name_of ps a x = (i : ℕ) (n : List ℕ) → name_of x ≡ Some n → name_of (place_at ps i) ≡ Some n → i ≡ a

distinct_set : (name_of : Place → Option (List ℕ)) → name_of Empty ≡ None → (ps : List Place) (a : ℕ) (x : Place) → AreDistinct name_of ps → IsFree name_of ps a x → AreDistinct name_of (set ps a x)
distinct_set name_of nameless ps a x s free i j n ei ej = grind (arith, common_steps, eqb_tells, place_at-set_other, cases_lt, place_at-set_same, place_at-past)

-- place a is written, and isn't emptied by that
pub consistent_place : (k : KernelState) → IsConsistent k → (a : ℕ) (x : Place) → (x ≡ Empty → place_at k.places a ≡ Empty) → IsFree queue_name k.places a x → IsFree semaphore_name k.places a x
    → IsConsistent (record k { places = set k.places a x })
consistent_place k s a x filled queues semaphores = grind (arith, common_steps, eqb_tells, place_at-set_other, cases_lt, place_at-set_same, place_at-past, distinct_set)

-- the tables of a process are written, and refer to no empty place
pub consistent_tables : (k : KernelState) → IsConsistent k → (p : ℕ) (u : OpenTables)
    → ((n : ℕ) → place_at k.places n ≡ Empty → process_refers n (process_at k.processes p) ≡ false → process_refers n u ≡ false)
    → IsConsistent (record k { processes = set k.processes p u })
consistent_tables k s p u refers = grind (arith, common_steps, none_at, nobody, any_set)

all_closed : (n i : ℕ) → is_referred (replicate n closed_process) i ≡ false
all_closed zero i = refl
all_closed (suc n) i = all_closed n i

no_name : (name_of : Place → Option (List ℕ)) → name_of Empty ≡ None → (k i : ℕ) (n : List ℕ) → name_of (place_at (empty_kernel k).places i) ≡ Some n → ⊥
no_name name_of nameless k i n e = let f = sym nameless ∙ sym (ap name_of (place_at-empties 64 i)) ∙ e in cc

pub consistent_empty : (n : ℕ) → IsConsistent (empty_kernel n)
consistent_empty n = record {
  count = length-replicate 64 Empty;
  referred = λ i e. all_closed n i;
  queues = λ i j m a b. absurd (no_name queue_name refl n i m a);
  semaphores = λ i j m a b. absurd (no_name semaphore_name refl n i m a);
}
