-- Whether what is asked of calls is so on every way.
use Rattle.std.specs.Prelude.{ℕ, ◌≡◌, ◌++◌, ◌⊎◌, false, List, [], ◌∷◌, IsTrue}
use Rattle.lab_sched.specs.Worlds.{WorldState, step, run}
use Rattle.lab_sched.specs.Execution.{AreEffective}
use Rattle.lab_sched.specs.Schedules.{steps_of}
use Rattle.lab_sched.specs.declared.schedule.Block.{Block}
use Rattle.lab_worlds.specs.Closed.{AreAtRest}
use Rattle.lab_worlds.specs.Unwaiting.{NoneGoesOn}
use Rattle.lab_ways.specs.declared.wanted.Wanted.{Wanted}
use Rattle.lab_ways.specs.declared.ways.Ways.{Ways}
use Rattle.lab_ways.specs.declared.ways.Ways.TheVariants.{Always, Without, Unknown}
use Rattle.lab_ways.specs.Wanted.{next_in, is_allowed, is_accepted}

-- the state after steps from a world, where it is s before them
unfoldable pub state_from : Wanted → ℕ → WorldState → List ℕ → ℕ
state_from x s w [] = s
state_from x s w (p ∷ ps) = state_from x (next_in x s w p) (step w p) ps

-- the state after steps from the start
abbrev pub state_after : Wanted → WorldState → List ℕ → ℕ
state_after x start ps = state_from x 0 start ps

-- whatever steps are taken from the start, effective or not, the state after them is allowed, and accepted if no process goes on from
-- the world after them
abbrev pub IsEveryWay : Wanted → WorldState → Type 0
IsEveryWay x start =
    (ps : List ℕ) → IsTrue (is_allowed x.pattern (state_after x start ps))
    × (NoneGoesOn (run start ps) → IsTrue (is_accepted x.pattern (state_after x start ps)))

-- the last of the steps leads from a state that is allowed to one that isn't
abbrev pub BreaksAtLast : Wanted → WorldState → List ℕ → Type 0
BreaksAtLast x start ps =
    (qs : List ℕ) × (p : ℕ) × (ps ≡ qs ++ p ∷ []) × IsTrue (is_allowed x.pattern (state_after x start qs))
    × (is_allowed x.pattern (state_after x start ps) ≡ false)

-- the steps lead to a world at rest and to a state that isn't accepted
abbrev pub RestsUnaccepted : Wanted → WorldState → List ℕ → Type 0
RestsUnaccepted x start ps = AreAtRest (run start ps) × (is_accepted x.pattern (state_after x start ps) ≡ false)

-- the effective steps of the schedule lead from the start to such an end
pub record IsWayWithout (x : Wanted) (start : WorldState) (s : List Block) : Type 0 where
  pub effective : AreEffective start (steps_of s)
  pub against : BreaksAtLast x start (steps_of s) ⊎ RestsUnaccepted x start (steps_of s)

-- what is found of what is asked is so
abbrev pub AreWays : WorldState → Wanted → Ways → Type 0
AreWays start x Always = IsEveryWay x start
AreWays start x (Without s) = IsWayWithout x start s
AreWays start x Unknown = Unit {0}
