-- Fairness: steps in which each process that can go on takes one, lassos of such steps, and what shows
-- that there is none.
use Rattle.std.specs.Prelude.{ℕ, ◌≡◌, ◌<◌, ◌≤◌, ◌++◌, ◌⊎◌, List, [], ◌∷◌, Contains, length}
use Rattle.lab_sched.specs.Worlds.{WorldState, step_effect_in, run, IsEffective}
use Rattle.lab_sched.specs.Execution.{AreEffective}
use Rattle.lab_sched.specs.Schedules.{steps_of}
use Rattle.lab_worlds.specs.declared.exploration.Lasso.{Lasso}
use Rattle.lab_worlds.specs.Lassos.{IsLasso}

-- at some world along the steps, the first and the last included, process p has no effective step
abbrev pub IsDisabledAlong : WorldState → List ℕ → ℕ → Type 0
IsDisabledAlong w ps p = (qs rs : List ℕ) × (ps ≡ qs ++ rs) × (IsEffective (step_effect_in (run w qs) p) → ⊥)

-- process p takes one of the steps, or has no effective step at some world along them
abbrev pub IsFairTo : WorldState → List ℕ → ℕ → Type 0
IsFairTo w ps p = Contains ps p ⊎ IsDisabledAlong w ps p

-- a fair segment: effective steps, at least one, in which each process is treated fairly
pub record IsFairSegment (w : WorldState) (ps : List ℕ) : Type 0 where
  pub some : 1 ≤ length ps
  pub effective : AreEffective w ps
  pub fair_to : (p : ℕ) → p < length w.processes → IsFairTo w ps p

-- lists of steps one behind the other, each a fair segment
abbrev pub AreFairSegments : WorldState → List (List ℕ) → Type 0
AreFairSegments w [] = Unit {0}
AreFairSegments w (ps ∷ more) = IsFairSegment w ps × AreFairSegments (run w ps) more

-- a lasso that is a fair segment
pub record IsFairLasso (start : WorldState) (r : Lasso) : Type 0 where
  pub lasso : IsLasso start r
  pub segment : IsFairSegment (run start (steps_of r.schedule)) (steps_of r.steps)

-- after some effective steps there are fair segments as many as one likes, one behind the other
abbrev pub AreFairlyEndless : WorldState → Type 0
AreFairlyEndless start = (n : ℕ) → (ps : List ℕ) × (pss : List (List ℕ))
    × AreEffective start ps × AreFairSegments (run start ps) pss × (n ≤ length pss)

-- whatever effective steps are taken from the start, no more fair segments than some number follow,
-- one behind the other
abbrev pub AreFairlyBounded : WorldState → Type 0
AreFairlyBounded start = (n : ℕ) × ((ps : List ℕ) (pss : List (List ℕ))
    → AreEffective start ps → AreFairSegments (run start ps) pss → length pss ≤ n)
