-- What is found of a question is so.
use Rattle.std.specs.Prelude.{ℕ, ◌≡◌, ◌<◌, ◌+◌, ◌++◌, Bool, true, false, Option, Some, None, List, All, slice_get, option_map}
use Rattle.std.specs.Option.{option_and_then}
use Rattle.lab_sched.specs.declared.schedule.Block.{Block}
use Rattle.lab_sched.specs.Schedules.{most_steps, steps_of, total_of}
use Rattle.lab_sched.specs.Worlds.{WorldState}
use Rattle.lab_worlds.specs.declared.ends.End.{End}
use Rattle.lab_worlds.specs.declared.exploration.Exploration.{Exploration}
use Rattle.lab_worlds.specs.declared.exploration.Lasso.{Lasso}
use Rattle.lab_worlds.specs.Reached.{Violates, IsKept}
use Rattle.lab_ways.specs.Ways.{IsEveryWay, IsWayWithout}
use Rattle.lab_questions.specs.declared.answers.Answer.{Answer}
use Rattle.lab_questions.specs.declared.answers.Answers.{Answers}
use Rattle.lab_questions.specs.declared.answers.Found.{Found}
use Rattle.lab_questions.specs.declared.answers.Found.TheVariants.{Holds, Unknown, FailsAt, Fails}
use Rattle.lab_questions.specs.declared.asked.Question.{Question}
use Rattle.lab_questions.specs.declared.asked.Question.TheVariants.{Require, Never, Calls}
use Rattle.lab_questions.specs.declared.asked.Waiter.{Waiter}
use Rattle.lab_questions.specs.declared.failure.Failure.{Failure}
use Rattle.lab_questions.specs.declared.failure.Failure.TheVariants.{Unmet, Endless, Empty, Incomplete}
use Rattle.lab_questions.specs.Judgments.{IsMet, IsFault}
use Rattle.lab_questions.specs.Programs.{schedule_at, AlwaysMeet, IsRefuted}

-- it is so of the programs that begin so, whatever steps are taken
abbrev pub IsSo : WorldState → List Waiter → Question → Type 0
IsSo start waiters (Require word) = AlwaysMeet word waiters start
IsSo start waiters (Never never) = IsKept start never
IsSo start waiters (Calls word) = IsEveryWay word.wanted start

-- of ends and of what must never be so it isn't known since not everything was visited; each end that was found is as it is required
abbrev pub IsOpen : List Waiter → Exploration → Question → Type 0
IsOpen waiters e (Require word) = (e.complete ≡ false) × All (IsMet word waiters e.ends.items) e.ends.items
IsOpen waiters e (Never never) = e.complete ≡ false
IsOpen waiters e (Calls word) = Unit {0}

-- end number i, counted from 0, is the first of these that isn't as it is required, and its schedule shows that, beside that of the
-- first end
abbrev pub IsAgainstAt : WorldState → List Waiter → List End → Question → ℕ → Type 0
IsAgainstAt start waiters ends (Require word) i =
    IsFault word waiters ends i × IsRefuted word waiters start (schedule_at ends 0) (schedule_at ends i)
IsAgainstAt start waiters ends (Never never) i = ⊥
IsAgainstAt start waiters ends (Calls word) i = ⊥

-- the steps of the schedule show that it isn't so
abbrev pub IsAgainst : WorldState → Question → List Block → Type 0
IsAgainst start (Require word) s = ⊥
IsAgainst start (Never never) s = Violates start never s
IsAgainst start (Calls word) s = IsWayWithout word.wanted start s

-- what is found of a question is so of the programs that begin so, where this was found of their ends
abbrev pub IsFound : WorldState → List Waiter → Exploration → Question → Found → Type 0
IsFound start waiters e q Holds = IsSo start waiters q
IsFound start waiters e q Unknown = IsOpen waiters e q
IsFound start waiters e q (FailsAt i) = IsAgainstAt start waiters e.ends.items q i
IsFound start waiters e q (Fails s) = IsAgainst start q s

-- an answer is so
abbrev pub IsAnswer : WorldState → List Waiter → Exploration → Answer → Type 0
IsAnswer start waiters e a = IsFound start waiters e a.question a.found

-- whether it isn't so
abbrev pub fails : Found → Bool
fails Holds = false
fails Unknown = false
fails (FailsAt i) = true
fails (Fails s) = true

-- whether it is known
abbrev pub is_known : Found → Bool
is_known Holds = true
is_known Unknown = false
is_known (FailsAt i) = true
is_known (Fails s) = true

-- the schedule that shows that it isn't so
abbrev pub shown_by : List End → Found → Option (List Block)
shown_by ends Holds = None
shown_by ends Unknown = None
shown_by ends (FailsAt i) = option_map (λ e. e.schedule) (slice_get ends i)
shown_by ends (Fails s) = Some s

-- the schedule that shows why not all is so, if there is one
abbrev pub shown_of : Answers → Option Failure → Option (List Block)
shown_of a None = None
shown_of a (Some (Unmet k)) = option_and_then (λ x. shown_by a.exploration.ends.items x.found) (slice_get a.answers.items k)
shown_of a (Some Endless) = a.through
shown_of a (Some Empty) = None
shown_of a (Some Incomplete) = None

-- the same of the failure that is told
abbrev pub bad_schedule : Answers → Option (List Block)
bad_schedule a = shown_of a a.failure

-- a schedule has the steps of a lasso behind those that lead to it; there is none if they are too many for one
abbrev pub IsThrough : Option Lasso → Option (List Block) → Type 0
IsThrough None whole = whole ≡ None
IsThrough (Some r) None = most_steps < total_of r.schedule + total_of r.steps
IsThrough (Some r) (Some whole) = steps_of whole ≡ steps_of r.schedule ++ steps_of r.steps
