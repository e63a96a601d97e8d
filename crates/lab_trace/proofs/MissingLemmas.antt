-- Steps of processes that aren't there.
use Rattle.std.proofs.Common.{◌≡◌, ℕ, zero, suc, [], ◌∷◌, ◌+◌, ◌-◌, ◌<◌, ◌≤◌, nat_le, nat_lt, Bool, true, false, List, Some, None, length, take, get_or, arith}
use Rattle.std.proofs.lemmas.Bool.Decides.{nat_tests}
use Rattle.std.proofs.lemmas.List.Sums.{position_or_len_is}
use Rattle.std.specs.List.{AllByRecursion}
use Rattle.lab_sched.specs.Worlds.{WorldState}
use Rattle.lab_sched.specs.Schedules.{steps_of, IsBlock, IsSchedule}
use Rattle.lab_sched.specs.declared.schedule.Block.{Block}
use Rattle.lab_sched.proofs.ScheduleRuns.{next-step}
use Rattle.lab_trace.specs.Traces.{missing_after}

-- the steps before step number n are of processes that are there
abbrev pub AreThereBefore : ℕ → List ℕ → ℕ → Type 0
AreThereBefore count ps n = (k : ℕ) → k < n → nat_le count (get_or ps k 0) ≡ false

pub missing-at : (w : WorldState) (ps : List ℕ) (n : ℕ) → n < length ps → AreThereBefore (length w.processes) ps n → length w.processes ≤ get_or ps n 0 → missing_after w ps ≡ Some n
unfolding missing_after
missing-at w ps n inside before here =
    let e = position_or_len_is (λ p. nat_le (length w.processes) p) ps n 0 (omega arith) before (λ _. grind (arith, nat_tests, here)) in
    rw e (grind (arith, nat_tests))

pub missing-none : (w : WorldState) (ps : List ℕ) → AreThereBefore (length w.processes) ps (length ps) → missing_after w ps ≡ None
unfolding missing_after
missing-none w ps before =
    let e = position_or_len_is (λ p. nat_le (length w.processes) p) ps (length ps) 0 (omega arith) before (λ h. absurd (omega arith)) in
    rw e (grind (arith, nat_tests))

-- the steps of a block more
pub there-more : (count : ℕ) (bs : List Block) (i done : ℕ) (d : Block) → i < length bs → done ≡ length (steps_of (take i bs)) → (get_or bs i d).pid < count
    → AreThereBefore count (steps_of bs) done → AreThereBefore count (steps_of bs) (done + (get_or bs i d).count)
there-more count bs i done d within is there before k h = by (nat_lt k done) (grind arith)
  where
    by : (b : Bool) → nat_lt k done ≡ b → nat_le count (get_or (steps_of bs) k 0) ≡ false
    by true e = before k (grind (arith, nat_tests, e))
    by false e =
        let past : done ≤ k = grind (arith, nat_tests, e) in
        let at = next-step bs i (k - done) done d within (omega arith) is in
        let here : done + (k - done) ≡ k = omega arith in
        let process : get_or (steps_of bs) k 0 ≡ (get_or bs i d).pid = rw here at at in
        rw process (grind (arith, nat_tests, there))

-- each block has a step
pub block-some : (bs : List Block) (i : ℕ) (d : Block) → IsSchedule bs → i < length bs → 1 ≤ (get_or bs i d).count
block-some bs i d is within = (by bs i is.valid within).some
  where
    by : (xs : List Block) (j : ℕ) → AllByRecursion IsBlock xs → j < length xs → IsBlock (get_or xs j d)
    by [] j all h = absurd (omega arith)
    by (x ∷ xs) zero all h = all.0
    by (x ∷ xs) (suc j) all h = by xs j all.1 (omega arith)
