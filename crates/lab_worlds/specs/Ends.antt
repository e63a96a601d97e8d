-- The ends of an exploration.
use Rattle.std.specs.Prelude.{ℕ, ◌≡◌, ◌≤◌, List, Some, All, length, slice_get}
use Rattle.lab_sched.specs.Worlds.{WorldState, run, entries}
use Rattle.lab_sched.specs.Execution.{AreEffective}
use Rattle.lab_sched.specs.Schedules.{steps_of}
use Rattle.lab_sched.specs.Verdicts.{IsVerdict, AreStuck}
use Rattle.lab_sched.specs.declared.verdict.Verdict.TheVariants.{Open, Stuck}
use Rattle.lab_worlds.specs.declared.ends.End.{End}
use Rattle.lab_worlds.specs.Calls.{AreAlike}
use Rattle.lab_worlds.specs.Closed.{AreAtRest}

-- the effective steps of the schedule lead from the start to the world, which is at rest, and ended
-- or stuck; so many of them are calls
pub record IsEnd (start : WorldState) (e : End) : Type 0 where
  pub effective : AreEffective start (steps_of e.schedule)
  pub leads : run start (steps_of e.schedule) ≡ e.world
  pub calls : length (entries start (steps_of e.schedule)) ≡ e.calls
  pub rests : AreAtRest e.world
  pub verdict : IsVerdict e.world e.verdict
  pub closed : e.verdict ≡ Open → ⊥

-- each is an end from the start
abbrev pub AreEnds : WorldState → List End → Type 0
AreEnds start ends = All (IsEnd start) ends

-- one of the ends is in a world alike (with the same processes, over a kernel that is alike), and its
-- verdict is the world's
abbrev pub IsReported : List End → WorldState → Type 0
IsReported ends w =
    (i : ℕ) × (e : End) × (slice_get ends i ≡ Some e) × AreAlike w e.world × IsVerdict w e.verdict

-- whatever steps are taken from the start, effective or not: if the world after them is at rest,
-- one of the ends is in a world alike, with its verdict
abbrev pub HaveAllEnds : WorldState → List End → Type 0
HaveAllEnds start ends = (ps : List ℕ) → AreAtRest (run start ps) → IsReported ends (run start ps)

-- whatever steps are taken from the start, effective or not: if the world after them is at rest,
-- one of the ends is in a world alike, and has no more calls than these steps
abbrev pub HaveFewestCalls : WorldState → List End → Type 0
HaveFewestCalls start ends = (ps : List ℕ) → AreAtRest (run start ps)
    → (i : ℕ) × (e : End) × (slice_get ends i ≡ Some e) × AreAlike (run start ps) e.world
    × (e.calls ≤ length (entries start ps))

-- no end is stuck
abbrev pub NoneStuck : List End → Type 0
NoneStuck ends = All (λ e. e.verdict ≡ Stuck → ⊥) ends

-- whatever steps are taken from the start, effective or not, the world after them isn't stuck
abbrev pub NeverStuck : WorldState → Type 0
NeverStuck start = (ps : List ℕ) → AreStuck (run start ps) → ⊥
