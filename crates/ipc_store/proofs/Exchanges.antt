-- Renamings in two lists, and exchanges of where they take two places.
use Rattle.std.proofs.Common.{◌==◌, if◌then◌else◌, ◌≡◌, ℕ, ◌<◌, List, length, set, get_or, ◌∙◌, arith, rules}
use Rattle.std.proofs.lemmas.Bool.{cases_lt, ne_eqb}
use Rattle.std.proofs.lemmas.Bool.Decides.{eqb_tells}
use Rattle.std.proofs.lemmas.List.{get_or_default, get_or_past}
use Rattle.std.proofs.lemmas.Option.{unwrap_or-slice_get}
use Rattle.ipc_store.specs.declared.alike.Renaming.{Renaming}
use Rattle.ipc_kernel.specs.Alike.{IsPermutation}
use Rattle.ipc_store.specs.Private.Renamings.{Permutes, renamed_by, Follows}
use Rattle.ipc_store.proofs.Renamings.{same_test}
use Rattle.ipc_store.proofs.Alikes.{permutation_itself, permutation_then, swap, swap_second, swap_other, swap_permutes}
use Rattle.std.proofs.lemmas.Grind.{common_steps}

pub renamed_by-read : (to : List ℕ) (i : ℕ) → i < length to → renamed_by to i ≡ get_or to i 0
renamed_by-read to i h = unwrap_or-slice_get to i i ∙ get_or_default to i i 0 h

renamed_by-set : (to : List ℕ) (i x n : ℕ) → i < length to → renamed_by (set to i x) n ≡ (if n == i then x else renamed_by to n)
renamed_by-set to i x n h = grind (arith, common_steps, unwrap_or-slice_get, eqb_tells)

-- functions that take each number to where those of a permutation do are one
permutation_along : (f g h i : ℕ → ℕ) → ((n : ℕ) → h n ≡ f n) → ((n : ℕ) → i n ≡ g n) → IsPermutation f g → IsPermutation h i
permutation_along f g h i to from p = search rules

-- a list that takes each place to itself
pub identity_permutes : (to : List ℕ) → ((k : ℕ) → k < length to → renamed_by to k ≡ k) → IsPermutation (renamed_by to) (renamed_by to)
identity_permutes to each = grind (arith, common_steps, permutation_along, permutation_itself, cases_lt, unwrap_or-slice_get, get_or_past)

-- where the lists take a place once place a is taken to b
pub exchanged_to : (to from : List ℕ) (a b there back : ℕ) → length to ≡ 64 → IsPermutation (renamed_by to) (renamed_by from) → a < 64 → b < 64 → there ≡ renamed_by to a → back ≡ renamed_by from b
    → (n : ℕ) → renamed_by (set (set to a b) back there) n ≡ swap b there (renamed_by to n)
exchanged_to to from a b there back count p ha hb is_there is_back n = grind (arith, common_steps, same_test, renamed_by-set)

exchanged_from : (to from : List ℕ) (a b there back : ℕ) → length from ≡ 64 → IsPermutation (renamed_by to) (renamed_by from) → a < 64 → b < 64 → there ≡ renamed_by to a → back ≡ renamed_by from b
    → (n : ℕ) → renamed_by (set (set from b a) there back) n ≡ renamed_by from (swap b there n)
exchanged_from to from a b there back count p ha hb is_there is_back n = grind (arith, common_steps, renamed_by-set, eqb_tells, swap_second)

pub exchanged_permutes : (to from : List ℕ) (a b there back : ℕ) → length to ≡ 64 → length from ≡ 64 → IsPermutation (renamed_by to) (renamed_by from) → a < 64 → b < 64 → there ≡ renamed_by to a → back ≡ renamed_by from b
    → IsPermutation (renamed_by (set (set to a b) back there)) (renamed_by (set (set from b a) there back))
exchanged_permutes to from a b there back first second p ha hb is_there is_back = grind (arith, common_steps, permutation_along, exchanged_to, exchanged_from, permutation_then, swap, swap_permutes)

-- after the exchange the place is taken where f takes it, and so is each that was
pub exchanged_follows : (earlier later : Renaming) (f g : ℕ → ℕ) (a b there : ℕ) → Permutes earlier → IsPermutation f g → f a ≡ b → there ≡ renamed_by earlier.to a
    → ((n : ℕ) → renamed_by later.to n ≡ swap b there (renamed_by earlier.to n)) → Follows f (λ i. i ≡ a) earlier later
exchanged_follows earlier later f g a b there p h is is_there exchanged = grind (arith, common_steps, eqb_tells, swap_other, ne_eqb, swap_second)
