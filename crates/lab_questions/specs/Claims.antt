-- What a text says of the programs of a laboratory.
use Rattle.std.specs.Prelude.{ℕ, ◌≡◌, ◌≤◌, true, List, length}
use Rattle.lab_sched.specs.declared.schedule.Block.{Block}
use Rattle.lab_sched.specs.declared.verdict.Verdict.TheVariants.{Stuck}
use Rattle.lab_sched.specs.Schedules.{steps_of}
use Rattle.lab_sched.specs.Worlds.{WorldState, run, entries}
use Rattle.lab_sched.specs.Execution.{AreEffective}
use Rattle.lab_texts.specs.Verdicts.{verdict_line}
use Rattle.lab_worlds.specs.Closed.{AreAtRest}
use Rattle.lab_questions.specs.declared.asked.Show.{Show}
use Rattle.lab_questions.specs.Lines.{StandIn, AreLast}
use Rattle.lab_questions.specs.Shown.{shown_text}
use Rattle.lab_questions.specs.EndTexts.{end_lines, endless_line, extent_line}

-- its last line is `complete`, with a number of worlds
abbrev pub SaysComplete : List ℕ → Type 0
SaysComplete text = (worlds : ℕ) × AreLast (extent_line true worlds) text

-- it has a line `endless`
abbrev pub SaysEndless : List ℕ → Type 0
SaysEndless text = StandIn endless_line text

-- it has a line `verdict stuck`
abbrev pub SaysStuck : List ℕ → Type 0
SaysStuck text = StandIn (verdict_line Stuck) text

-- it tells an end with these lines, under some number, and with a schedule by whose steps, all
-- effective and at most so many of them calls, the programs come from the start to rest, where these
-- lines are told
pub record TellsEnd (show : Show) (start : WorldState) (text lines : List ℕ) (calls : ℕ) : Type 0 where
  pub number : ℕ
  pub schedule : List Block
  pub told : StandIn (end_lines number lines schedule) text
  pub effective : AreEffective start (steps_of schedule)
  pub rests : AreAtRest (run start (steps_of schedule))
  pub few : length (entries start (steps_of schedule)) ≤ calls
  pub shown : shown_text show (run start (steps_of schedule)) ≡ lines

-- whatever steps are taken from the start, effective or not: if the world after them is at rest, it
-- tells an end with what is told of that world, and with no more calls than these steps
abbrev pub TellsEveryEnd : Show → WorldState → List ℕ → Type 0
TellsEveryEnd show start text = (ps : List ℕ) → AreAtRest (run start ps)
    → TellsEnd show start text (shown_text show (run start ps)) (length (entries start ps))
