-- How one process stands after any steps, it stands in the world of a row.
use Rattle.std.proofs.Common.{ℕ, zero, suc, ◌≡◌, ◌+◌, ◌<◌, arith, Bool, true, false, cond, All, List, [], ◌∷◌, Some, refl, sym, ap, subst, ◌∙◌, slice_get, rules}
use Rattle.std.specs.List.{count_by, enumerate_from}
use Rattle.std.proofs.lemmas.List.Sums.{sum_by-cons}
use Rattle.ipc_kernel.specs.Kernel.{KernelState}
use Rattle.lab_sched.specs.Worlds.{Process, WorldState, run}
use Rattle.lab_sched.specs.Stepping.{before_wait}
use Rattle.lab_conditions.specs.declared.condition.State.{State}
use Rattle.lab_conditions.specs.declared.condition.Part.{Part}
use Rattle.lab_conditions.specs.declared.condition.Part.TheVariants.{Semaphore, Queue, Of, MoreThan}
use Rattle.lab_conditions.specs.declared.condition.Condition.{Condition}
use Rattle.lab_conditions.specs.Conditions.{is_so, needs_kernel, part_needs_kernel, how_many, PartHolds}
use Rattle.lab_worlds.specs.Reached.{NeverHolds}
use Rattle.lab_worlds.specs.Unwaiting.{AskAgain}
use Rattle.lab_worlds.proofs.HeldAdvances.{asks_run}
use Rattle.lab_search.specs.declared.store.Store.{Store}
use Rattle.lab_search.specs.Stored.{IsAt}
use Rattle.lab_search.specs.Shown.{ShowsProcesses}
use Rattle.lab_explore.specs.Private.Judged.{NoRowHolds}
use Rattle.lab_explore.specs.Private.Keeping.{IsOfOne, IsOfOneProcess}
use Rattle.lab_explore.proofs.KeptConditions.{so_back, so_at_call}

-- how many of a list are so, where the first has number n
abbrev so_many : {X : Type 0} → (ℕ → X → Bool) → ℕ → List X → ℕ
so_many f n xs = count_by (λ e. f e.0 e.1) (enumerate_from n xs)

one_more : {X : Type 0} (f : ℕ → X → Bool) (n : ℕ) (x : X) (xs : List X) → so_many f n (x ∷ xs) ≡ cond (f n x) 1 0 + so_many f (n + 1) xs
one_more f n x xs = sum_by-cons (λ e. cond (f e.0 e.1) 1 0) (n, x) (enumerate_from (n + 1) xs)

-- where some are so, one is
find_one : {X : Type 0} (f : ℕ → X → Bool) (n : ℕ) (xs : List X) → 0 < so_many f n xs → (i : ℕ) × (x : X) × (slice_get xs i ≡ Some x) × (f (n + i) x ≡ true)
find_one f n [] some = absurd (omega (arith, some))
find_one {X} f n (x ∷ xs) some = by (find_one f (n + 1) xs) (f n x) refl
  where
    by : (0 < so_many f (n + 1) xs → (i : ℕ) × (y : X) × (slice_get xs i ≡ Some y) × (f (n + 1 + i) y ≡ true)) → (b : Bool) → f n x ≡ b
        → (i : ℕ) × (y : X) × (slice_get (x ∷ xs) i ≡ Some y) × (f (n + i) y ≡ true)
    by more true e = (0, x, refl, subst (λ k. f k x ≡ true) (omega arith) e)
    by more false e =
        let none = ap {B = ℕ} (λ b. cond b 1 0) e in
        let rest = more (omega (arith, some, one_more f n x xs, none)) in
        (suc rest.0, rest.1, rest.2, subst (λ k. f k rest.1 ≡ true) (omega arith) rest.3)

-- where one is so, some are
some_are : {X : Type 0} (f : ℕ → X → Bool) (n : ℕ) (xs : List X) (i : ℕ) (x : X) → slice_get xs i ≡ Some x → f (n + i) x ≡ true → 0 < so_many f n xs
some_are f n [] i x at so = absurd (cc)
some_are f n (y ∷ xs) zero x at so =
    let same : y ≡ x = cc in
    let first = ap {B = ℕ} (λ b. cond b 1 0) (subst (λ z. f n z ≡ true) (sym same) (subst (λ k. f k x ≡ true) (omega arith) so)) in
    omega (arith, one_more f n y xs, first)
some_are f n (y ∷ xs) (suc i) x at so =
    let rest = some_are f (n + 1) xs i x at (subst (λ k. f k x ≡ true) (omega arith) so) in
    omega (arith, one_more f n y xs, rest)

-- a process stands so, or doesn't, whatever the kernel
so_over : (x : State) (k j : KernelState) (p : ℕ) (s : Process) → needs_kernel x ≡ false → is_so x k p s ≡ is_so x j p s
so_over x k j p s free = search rules

-- where a process stands so after some steps, it stands so in the world of a row
shown : (start : WorldState) (t : Store) → AskAgain start → ShowsProcesses start t → (x : State) → needs_kernel x ≡ false → (ps : List ℕ) (p : ℕ) (s : Process) → slice_get (run start ps).processes p ≡ Some s
    → is_so x (run start ps).kernel p s ≡ true → (i : ℕ) × (v : WorldState) × IsAt t i v × (u : Process) × (slice_get v.processes p ≡ Some u) × (is_so x v.kernel p u ≡ true)
shown start t asks shows x free ps p s at so =
    let w = run start ps in
    let row = shows.states ps p s at (so_at_call x w.kernel p s so) in
    (row.0, row.1, row.2, before_wait s, row.3, so_back x row.1.kernel p s (asks_run ps start asks p s at) ∙ so_over x row.1.kernel w.kernel p s free ∙ so)

-- so does a part that says so
part_shown : (start : WorldState) (t : Store) → AskAgain start → ShowsProcesses start t → (part : Part) → IsOfOne part → part_needs_kernel part ≡ false → (ps : List ℕ) → PartHolds part (run start ps)
    → (i : ℕ) × (v : WorldState) × IsAt t i v × PartHolds part v
part_shown start t asks shows (Semaphore name r x) one free ps h = absurd one
part_shown start t asks shows (Queue name r x) one free ps h = absurd one
part_shown start t asks shows (Of p x) one free ps h =
    let row = shown start t asks shows x free ps p h.0 h.1 h.2 in
    (row.0, row.1, row.2, (row.3, row.4, row.5))
part_shown start t asks shows (MoreThan x n) one free ps h =
    let w = run start ps in
    let found = find_one (λ p s. is_so x w.kernel p s) 0 w.processes (subst (λ k. k < how_many x w) one h) in
    let so : is_so x w.kernel found.0 found.1 ≡ true = subst (λ k. is_so x w.kernel k found.1 ≡ true) (omega arith) found.3 in
    let row = shown start t asks shows x free ps found.0 found.1 found.2 so in
    let many = some_are (λ p s. is_so x row.1.kernel p s) 0 row.1.processes found.0 row.3 row.4 (subst (λ k. is_so x row.1.kernel k row.3 ≡ true) (omega arith) row.5) in
    (row.0, row.1, row.2, subst (λ k. k < how_many x row.1) (sym one) many)

all_one : {A : Type 0} (P : A → Type 0) (x : A) → P x → All P (x ∷ [])
all_one P x h zero d within = h
all_one P x h (suc k) d within = absurd (omega (arith, within))

-- what holds of no row and is said of one process holds after no steps
pub never_holds_of_one : (c : Condition) (start : WorldState) (t : Store) → AskAgain start → ShowsProcesses start t → IsOfOneProcess c → NoRowHolds t c → NeverHolds start c
never_holds_of_one c start t asks shows is none ps holds =
    let part : PartHolds is.part (run start ps) = subst (λ xs. All (λ y. PartHolds y (run start ps)) xs) is.only holds 0 is.part (omega arith) in
    let row = part_shown start t asks shows is.part is.one is.free ps part in
    none row.0 row.1 row.2 (subst (λ xs. All (λ y. PartHolds y row.1) xs) (sym is.only) (all_one (λ y. PartHolds y row.1) is.part row.3))
