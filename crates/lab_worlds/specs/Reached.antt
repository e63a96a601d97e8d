-- What must never be so, and the steps that lead to it.
use Rattle.std.specs.Prelude.{ℕ, ◌≡◌, ◌++◌, List, [], ◌∷◌, Option, Some, None}
use Rattle.lab_sched.specs.Worlds.{WorldState, run}
use Rattle.lab_sched.specs.Execution.{AreEffective}
use Rattle.lab_sched.specs.Schedules.{steps_of}
use Rattle.lab_sched.specs.declared.schedule.Block.{Block}
use Rattle.lab_conditions.specs.declared.condition.Condition.{Condition}
use Rattle.lab_conditions.specs.declared.never.Never.{Never}
use Rattle.lab_conditions.specs.declared.never.Never.TheVariants as never
use Rattle.lab_conditions.specs.Conditions.{Holds}
use Rattle.lab_conditions.specs.Losses.{Loses}
use Rattle.lab_conditions.specs.Refusals.{Refuses}
use Rattle.lab_worlds.specs.Calls.{Alongside}

-- effective steps lead from the start to a world of which the condition holds
pub record LeadsTo (start : WorldState) (c : Condition) (s : List Block) : Type 0 where
  pub effective : AreEffective start (steps_of s)
  pub holds : Holds c (run start (steps_of s))

-- whatever steps are taken from the start, effective or not, the condition doesn't hold of the
-- world after them
abbrev pub NeverHolds : WorldState → Condition → Type 0
NeverHolds start c = (ps : List ℕ) → Holds c (run start ps) → ⊥

-- the step of process p is what never must happen; a condition is none that a step breaks
abbrev pub Breaks : Never → WorldState → ℕ → Type 0
Breaks (never.Holds c) w p = ⊥
Breaks never.Lost w p = Loses w p
Breaks (never.Refused r) w p = Refuses r w p

-- the effective steps of the schedule lead from the start to such a step, the last of them
pub record LeadsToStep (start : WorldState) (n : Never) (s : List Block) : Type 0 where
  pub before : List ℕ
  pub last : ℕ
  pub steps : steps_of s ≡ before ++ last ∷ []
  pub effective : AreEffective start (steps_of s)
  pub breaks : Breaks n (run start before) last

-- whatever steps are taken from the start, effective or not, no step after them is such a one
abbrev pub NeverBreaks : WorldState → Never → Type 0
NeverBreaks start n = (ps : List ℕ) (p : ℕ) → Breaks n (run start ps) p → ⊥

-- the steps of the schedule lead from the start to what must never be so
abbrev pub Violates : WorldState → Never → List Block → Type 0
Violates start (never.Holds c) s = LeadsTo start c s
Violates start never.Lost s = LeadsToStep start never.Lost s
Violates start (never.Refused r) s = LeadsToStep start (never.Refused r) s

-- no steps do
abbrev pub IsKept : WorldState → Never → Type 0
IsKept start (never.Holds c) = NeverHolds start c
IsKept start never.Lost = NeverBreaks start never.Lost
IsKept start (never.Refused r) = NeverBreaks start (never.Refused r)

-- where there is a schedule, its steps lead to what must never be so
abbrev pub ViolatesIfSome : WorldState → Never → Option (List Block) → Type 0
ViolatesIfSome start n None = Unit {0}
ViolatesIfSome start n (Some s) = Violates start n s

-- where there is no schedule, no steps do
abbrev pub KeptIfNone : WorldState → Never → Option (List Block) → Type 0
KeptIfNone start n None = IsKept start n
KeptIfNone start n (Some s) = Unit {0}

-- for each thing that must never be so, in order, a schedule that leads to it, or none
abbrev pub AreReached : WorldState → List Never → List (Option (List Block)) → Type 0
AreReached start ns found = Alongside (ViolatesIfSome start) ns found

-- what has no schedule never is so
abbrev pub AreKept : WorldState → List Never → List (Option (List Block)) → Type 0
AreKept start ns found = Alongside (KeptIfNone start) ns found
