-- Executions of worlds: lists of effective steps, where they lead, and the entries along them.
use Rattle.std.specs.Prelude.{ℕ, ◌≡◌, ◌==◌, ◌+◌, List, [], ◌∷◌, if◌then◌else◌}
use Rattle.lab_sched.specs.Worlds.{WorldState, step_effect_in, IsEffective, step, run, entries}
use Rattle.lab_sched.specs.declared.stepped.Entry.{Entry}

-- every step of a list is effective
abbrev pub AreEffective : WorldState → List ℕ → Type 0
AreEffective w [] = Unit {0}
AreEffective w (p ∷ ps) = IsEffective (step_effect_in w p) × AreEffective (step w p) ps

-- how many steps of a list are process p's
abbrev pub count : ℕ → List ℕ → ℕ
count p [] = 0
count p (q ∷ qs) = if q == p then count p qs + 1 else count p qs

-- the steps are all effective, and lead from one world to the other with these entries
pub record IsExecution (w : WorldState) (ps : List ℕ) (v : WorldState) (es : List Entry) : Type 0 where
  pub leads : run w ps ≡ v
  pub effective : AreEffective w ps
  pub entered : entries w ps ≡ es

-- from one world, effective steps with equal counts per process and equal entries lead to equal worlds
abbrev pub Commute : Type 0
Commute = (w : WorldState) (xs ys : List ℕ) → AreEffective w xs → AreEffective w ys
    → ((p : ℕ) → count p xs ≡ count p ys) → entries w xs ≡ entries w ys → run w xs ≡ run w ys
