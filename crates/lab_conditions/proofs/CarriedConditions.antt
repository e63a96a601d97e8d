-- Conditions that are carried from one world to another.
use Rattle.std.proofs.Common.{ℕ, suc, ◌+◌, ◌≡◌, ◌≤◌, Bool, true, false, cond, List, [], ◌∷◌, Option, Some, None, get_or, refl, sym, subst, slice_get, arith, rules}
use Rattle.std.specs.List.{count_by, enumerate_from}
use Rattle.std.proofs.lemmas.List.Sums.{sum_by-cons}
use Rattle.ipc_kernel.specs.declared.call.Call.{Call}
use Rattle.ipc_kernel.specs.Kernel.{KernelState}
use Rattle.ipc_kernel.specs.Alike.{IsAlike, IsConsistent}
use Rattle.ipc_store.proofs.LikeAnswers.{answers_alike}
use Rattle.lab_sched.specs.Worlds.{Process, WorldState}
use Rattle.lab_conditions.specs.declared.condition.State.{State}
use Rattle.lab_conditions.specs.declared.condition.Part.{Part}
use Rattle.lab_conditions.specs.declared.condition.Part.TheVariants.{Semaphore, Queue, Of, MoreThan}
use Rattle.lab_conditions.specs.declared.condition.Condition.{Condition}
use Rattle.lab_conditions.specs.Conditions.{must_wait, option_any, is_so, how_many, PartHolds, Holds}
use Rattle.std.proofs.lemmas.Grind.{common_steps}

waits_alike : (k j : KernelState) (p : ℕ) → IsConsistent k → IsAlike k j → (o : Option Call) → option_any (must_wait j p) o ≡ option_any (must_wait k p) o
waits_alike k j p consistent alike x = search (rules, answers_alike)

-- a process stands over a kernel as it does over one that is alike
pub so_alike : (x : State) (k j : KernelState) (p : ℕ) (s : Process) → IsConsistent k → IsAlike k j → is_so x j p s ≡ is_so x k p s
so_alike x k j p s consistent alike = search (rules, waits_alike)

-- what is so of a process in the one world is so of it in the other, and their kernels are alike
pub record Carries (w v : WorldState) : Type 0 where
  pub kernel : IsAlike w.kernel v.kernel
  pub states : (x : State) (p : ℕ) (s : Process) → slice_get w.processes p ≡ Some s → is_so x w.kernel p s ≡ true
      → (u : Process) × (slice_get v.processes p ≡ Some u) × (is_so x v.kernel p u ≡ true)

-- so the number of those that are so doesn't fall
abbrev pub Follows : {X : Type 0} → (ℕ → X → Bool) → (ℕ → X → Bool) → ℕ → List X → List X → Type 0
Follows {X} f g n xs ys = (i j : ℕ) → j ≡ n + i → (x : X) → slice_get xs i ≡ Some x → f j x ≡ true → (y : X) × (slice_get ys i ≡ Some y) × (g j y ≡ true)

cond_le : (a b : Bool) (m n : ℕ) → m ≤ n → (a ≡ true → b ≡ true) → cond a 1 0 + m ≤ cond b 1 0 + n
cond_le x b m n few h = search rules

-- how many of a list are so, where the first has number n
abbrev pub so_many : {X : Type 0} → (ℕ → X → Bool) → ℕ → List X → ℕ
so_many f n xs = count_by (λ e. f e.0 e.1) (enumerate_from n xs)

one_more : {X : Type 0} (f : ℕ → X → Bool) (n : ℕ) (x : X) (xs : List X) → so_many f n (x ∷ xs) ≡ cond (f n x) 1 0 + so_many f (n + 1) xs
one_more f n x xs = sum_by-cons (λ e. cond (f e.0 e.1) 1 0) (n, x) (enumerate_from (n + 1) xs)

first_so : {X : Type 0} (f g : ℕ → X → Bool) (n : ℕ) (x y : X) (xs ys : List X) → Follows f g n (x ∷ xs) (y ∷ ys) → f n x ≡ true → g n y ≡ true
first_so f g n x y xs ys h so =
    let z = h 0 n (omega arith) x refl so in
    let same : Some y ≡ Some z.0 = z.1 in
    let is : z.0 ≡ y = cc in
    subst (λ u. g n u ≡ true) is z.2

pub count_le : {X : Type 0} (f g : ℕ → X → Bool) (n : ℕ) (xs ys : List X) → Follows f g n xs ys → so_many f n xs ≤ so_many g n ys
count_le f g n [] ys h = omega arith
count_le f g n (x ∷ xs) [] h =
    let rest = cond_le (f n x) false (so_many f (n + 1) xs) 0 (count_le f g (n + 1) xs [] (λ i j e. h (suc i) j (omega (arith, e)))) (λ so. let y = h 0 n (omega arith) x refl so in absurd (let none : None ≡ Some y.0 = y.1 in cc)) in
    omega (arith, rest, one_more f n x xs)
count_le f g n (x ∷ xs) (y ∷ ys) h = search (rules, cond_le, first_so, one_more, (count_le f g (n + 1) xs ys (λ i j e. h (suc i) j (omega (arith, e)))))

many : (x : State) (w v : WorldState) → Carries w v → how_many x w ≤ how_many x v
many x w v carries = count_le (λ p s. is_so x w.kernel p s) (λ p s. is_so x v.kernel p s) 0 w.processes v.processes
    (λ i j e s at so.
    let same : j ≡ i = omega (arith, e) in
    let u = carries.states x i s at (subst (λ p. is_so x w.kernel p s ≡ true) same so) in
    (u.0, u.1, subst (λ p. is_so x v.kernel p u.0 ≡ true) (sym same) u.2))

-- what a part asks for holds then, too
part_carried : (part : Part) (w v : WorldState) → Carries w v → PartHolds part w → PartHolds part v
part_carried (Semaphore name r x) w v carries h = grind (arith, common_steps)
part_carried (Queue name r x) w v carries h = grind (arith, common_steps)
part_carried (Of p x) w v carries h = carries.states x p h.0 h.1 h.2
part_carried (MoreThan x n) w v carries h = omega (arith, h, many x w v carries)

-- and so does a condition
pub carried : (c : Condition) (w v : WorldState) → Carries w v → Holds c w → Holds c v
carried c w v carries holds = λ k d within. part_carried (get_or c.parts.items k d) w v carries (holds k d within)
