-- A permutation that takes each place with a name or a reference where a renaming of a kernel does is a renaming of that kernel.
use Rattle.std.proofs.Common.{◌≡◌, ℕ, ◌<◌, Bool, true, false, ◌||◌, map, refl, sym, ap, ◌∙◌, arith}
use Rattle.std.proofs.lemmas.Bool.{or_right}
use Rattle.ipc_kernel.specs.declared.place.Place.TheVariants.{Empty}
use Rattle.ipc_store.specs.declared.alike.Renaming.{Renaming}
use Rattle.ipc_kernel.specs.Processes.{process_refers, is_referred}
use Rattle.ipc_kernel.specs.Places.{place_at, has_name}
use Rattle.ipc_kernel.specs.Kernel.{KernelState, IsSettled}
use Rattle.ipc_kernel.specs.Alike.{renamed_process, IsPermutation, IsRenaming, IsAlike}
use Rattle.ipc_store.specs.Private.Renamings.{renamed_by, Permutes, Follows}
use Rattle.ipc_store.proofs.Renamings.{map_where, process_where}
use Rattle.ipc_store.proofs.Alikes.{place_at-emptied}
use Rattle.std.proofs.lemmas.Grind.{common_steps}

-- whether a place has a name or a reference
abbrev is_kept : KernelState → ℕ → Bool
is_kept k n = has_name (place_at k.places n) || is_referred k.processes n

-- a place that has neither is empty
empty_else : (k : KernelState) → IsSettled k → (n : ℕ) → is_kept k n ≡ false → place_at k.places n ≡ Empty
empty_else k settled n e = grind (arith, common_steps, place_at-emptied)

pub renaming_where : (f g h i : ℕ → ℕ) (k j : KernelState) → IsSettled k → IsRenaming f g k j → IsPermutation h i → ((n : ℕ) → is_kept k n ≡ true → h n ≡ f n) → IsRenaming h i k j
renaming_where f g h i k j settled r p same = record {
  permutation = p;
  count = r.count;
  places = λ n. kept_or_not n (is_kept k n) refl;
  processes = r.processes ∙ map_where process_refers (λ n. h n ≡ f n) _ _ (process_where f h) k.processes (λ n e. same n (or_right (has_name (place_at k.places n)) _ e));
}
  where
    -- the place m that f takes where h takes n is empty, too
    both_empty : (n m : ℕ) → f m ≡ h n → is_kept k n ≡ false → (b : Bool) → is_kept k m ≡ b → place_at j.places (h n) ≡ place_at k.places n
    both_empty n m met e true d = absurd (let there : m ≡ n = sym (p.undone m) ∙ ap i (same m d ∙ met) ∙ p.undone n in let kept = sym (ap (is_kept k) there) ∙ d in cc)
    both_empty n m met e false d = ap (place_at j.places) (sym met) ∙ r.places m ∙ empty_else k settled m d ∙ sym (empty_else k settled n e)

    kept_or_not : (n : ℕ) (b : Bool) → is_kept k n ≡ b → place_at j.places (h n) ≡ place_at k.places n
    kept_or_not n true e = ap (place_at j.places) (same n e) ∙ r.places n
    kept_or_not n false e = both_empty n (g (h n)) (r.permutation.redone (h n)) e (is_kept k (g (h n))) refl

-- a renaming that follows each of the kernel at its names and its references is one itself, if there is one
pub followed : (k j : KernelState) (r s t : Renaming) → IsSettled k → Permutes t
    → ((f g : ℕ → ℕ) → IsPermutation f g → ((n : ℕ) → place_at j.places (f n) ≡ place_at k.places n) → Follows f (λ n. has_name (place_at k.places n) ≡ true) r s)
    → ((n : ℕ) → has_name (place_at k.places n) ≡ true → n < 64)
    → ((f g : ℕ → ℕ) → IsPermutation f g → j.processes ≡ map (renamed_process f) k.processes → Follows f (λ n. is_referred k.processes n ≡ true) s t)
    → ((n : ℕ) → is_referred k.processes n ≡ true → n < 64)
    → IsAlike k j
    → IsRenaming (renamed_by t.to) (renamed_by t.from) k j
followed k j r s t settled p names named_within references referred_within alike =
    renaming_where alike.0 alike.1 (renamed_by t.to) (renamed_by t.from) k j settled alike.2 p (λ n e. same n (has_name (place_at k.places n)) refl e)
  where
    first : Follows alike.0 (λ n. has_name (place_at k.places n) ≡ true) r s
    first = names alike.0 alike.1 alike.2.permutation alike.2.places

    second : Follows alike.0 (λ n. is_referred k.processes n ≡ true) s t
    second = references alike.0 alike.1 alike.2.permutation alike.2.processes

    same : (n : ℕ) (b : Bool) → has_name (place_at k.places n) ≡ b → (b || is_referred k.processes n) ≡ true → renamed_by t.to n ≡ alike.0 n
    same n true e d = second.kept n (first.taken n (named_within n e) e)
    same n false e d = second.taken n (referred_within n d) d
