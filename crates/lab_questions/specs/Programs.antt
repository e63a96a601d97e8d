-- What answers say of the programs of a laboratory.
use Rattle.std.specs.Prelude.{ℕ, ◌≡◌, Option, Some, None, List, [], Any, slice_get}
use Rattle.lab_sched.specs.declared.schedule.Block.{Block}
use Rattle.lab_sched.specs.Schedules.{steps_of}
use Rattle.lab_sched.specs.Worlds.{WorldState, run}
use Rattle.lab_sched.specs.Execution.{AreEffective}
use Rattle.lab_worlds.specs.declared.ends.End.{End}
use Rattle.lab_worlds.specs.Closed.{AreAtRest}
use Rattle.lab_questions.specs.declared.asked.Show.{Show}
use Rattle.lab_questions.specs.declared.asked.Waiter.{Waiter}
use Rattle.lab_questions.specs.declared.asked.Word.{Word}
use Rattle.lab_questions.specs.EndTexts.{text_of}
use Rattle.lab_questions.specs.Judgments.{Meets}
use Rattle.lab_questions.specs.Shown.{shown_text}

-- the schedule of an end, if it is there
abbrev pub schedule_of : Option End → List Block
schedule_of None = []
schedule_of (Some e) = e.schedule

-- the schedule of end number i, counted from 0
abbrev pub schedule_at : List End → ℕ → List Block
schedule_at ends i = schedule_of (slice_get ends i)

-- whatever steps are taken from the start, effective or not: if the world after them is at rest, what is told of it is told of one of
-- the ends
abbrev pub TellEveryEnd : Show → WorldState → List End → Type 0
TellEveryEnd show start told = (ps : List ℕ) → AreAtRest (run start ps)
    → Any (λ e. text_of show e ≡ shown_text show (run start ps)) told

-- whatever steps are taken from the start, effective or not, and whatever others: if the worlds after
-- them are at rest, the second is as the word requires, beside the first
abbrev pub AlwaysMeet : Word → List Waiter → WorldState → Type 0
AlwaysMeet word waiters start = (ps qs : List ℕ) → AreAtRest (run start ps) → AreAtRest (run start qs)
    → Meets word waiters (run start ps) (run start qs)

-- the steps of both schedules, all effective, lead from the start to rest, and the second world isn't as
-- the word requires, beside the first
pub record IsRefuted (word : Word) (waiters : List Waiter) (start : WorldState) (a b : List Block) : Type 0 where
  pub first : AreEffective start (steps_of a)
  pub first_rests : AreAtRest (run start (steps_of a))
  pub second : AreEffective start (steps_of b)
  pub second_rests : AreAtRest (run start (steps_of b))
  pub unmet : Meets word waiters (run start (steps_of a)) (run start (steps_of b)) → ⊥
