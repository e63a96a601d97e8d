-- Sums of numbers, and how often a number stands in a list.
use Rattle.std.proofs.Common.{ℕ, zero, suc, ◌+◌, ◌*◌, ◌<◌, ◌≤◌, ◌≡◌, List, [], ◌∷◌, Some, refl, arith, length, slice_get, get_or}
use Rattle.std.proofs.lemmas.Bool.Decides.{nat_tests}
use Rattle.lab_sched.specs.Execution.{count}
use Rattle.lab_search.proofs.StandingWorlds.{total}

-- each number of a list is at most the sum
pub part_most : (ks : List ℕ) (q k : ℕ) → slice_get ks q ≡ Some k → k ≤ total ks
unfolding total
part_most [] q k e = absurd (cc)
part_most (x ∷ ks) zero k e = let same : x ≡ k = cc in omega arith
part_most (x ∷ ks) (suc q) k e = omega (arith, part_most ks q k e)

-- where each number is at most b, the sum is at most so many times b
pub total_most : (ks : List ℕ) (b : ℕ) → ((q k : ℕ) → slice_get ks q ≡ Some k → k ≤ b) → total ks ≤ length ks * b
unfolding total
total_most [] b h = omega arith
total_most (x ∷ ks) b h = omega (arith, h 0 x refl, total_most ks b (λ q k e. h (suc q) k e))

pub count_yes : (p q : ℕ) (ps : List ℕ) → q ≡ p → count p (q ∷ ps) ≡ count p ps + 1
count_yes p q ps same = grind (arith, nat_tests)

pub count_no : (p q : ℕ) (ps : List ℕ) → (q ≡ p → ⊥) → count p (q ∷ ps) ≡ count p ps
count_no p q ps other = grind (arith, nat_tests)

pub count_first : (p q : ℕ) (ps : List ℕ) → count p (q ∷ ps) ≡ count p (q ∷ []) + count p ps
count_first p q ps = grind (arith, nat_tests)

-- a process that takes one of the steps is counted
pub contained_counts : (ps : List ℕ) (p k : ℕ) → k < length ps → get_or ps k p ≡ p → 1 ≤ count p ps
contained_counts [] p k within is = absurd (omega arith)
contained_counts (q ∷ ps) p zero within is = let one = count_yes p q ps is in omega (arith, one)
contained_counts (q ∷ ps) p (suc k) within is =
    let rest : 1 ≤ count p ps = contained_counts ps p k (omega arith) is in
    let first : count p (q ∷ ps) ≡ count p (q ∷ []) + count p ps = count_first p q ps in
    omega (arith, rest, first)
