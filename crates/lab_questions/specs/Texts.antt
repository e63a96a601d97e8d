-- The text that tells what was found and answered.
use Rattle.std.specs.Prelude.{ℕ, Bool, true, false, not, cond, Option, Some, None, List, [], ◌++◌, codes, flat_map, option_map, slice_get}
use Rattle.std.specs.Fmt.{decimal}
use Rattle.std.specs.Option.{option_to_list}
use Rattle.lab_sched.specs.declared.schedule.Block.{Block}
use Rattle.lab_worlds.specs.declared.ends.End.{End}
use Rattle.lab_worlds.specs.declared.exploration.Exploration.{Exploration}
use Rattle.lab_questions.specs.declared.answers.Answer.{Answer}
use Rattle.lab_questions.specs.declared.asked.Question.{Question}
use Rattle.lab_questions.specs.declared.asked.Question.TheVariants.{Require, Never, Calls}
use Rattle.lab_questions.specs.declared.asked.Show.{Show}
use Rattle.lab_questions.specs.declared.asked.Word.{Word}
use Rattle.lab_questions.specs.declared.asked.Word.TheVariants.{Ended, Stuck, Halted, Empty, Same, Output}
use Rattle.lab_questions.specs.Answered.{shown_by}
use Rattle.lab_questions.specs.Asked.{head_of, is_never, question_text}
use Rattle.lab_questions.specs.EndTexts.{told_ends, ends_text, schedule_line, lasso_text, extent_line}

-- what isn't as it has to be: whether it must never be so, how its line begins, what was asked, the schedule with which the
-- last is compared, if there is one, and the one that shows it
pub record Unmet : Type 0 where
  pub never : Bool
  pub head : List ℕ
  pub asked : List ℕ
  pub first : Option (List Block)
  pub steps : List Block

-- the schedule of the first end, if a word compares others with it
abbrev pub first_of : List End → Word → Option (List Block)
first_of ends Ended = None
first_of ends Stuck = None
first_of ends Halted = None
first_of ends Empty = None
first_of ends Same = option_map (λ e. e.schedule) (slice_get ends 0)
first_of ends (Output need) = None

-- the same of a question
abbrev pub first_steps : List End → Question → Option (List Block)
first_steps ends (Require word) = first_of ends word
first_steps ends (Never never) = None
first_steps ends (Calls word) = None

-- what was asked and isn't so, with the schedule that shows it
abbrev pub unmet_by : List End → Question → List Block → Unmet
unmet_by ends q s = record { never = is_never q; head = head_of q; asked = question_text q; first = first_steps ends q; steps = s }

-- what was asked, if it isn't so
abbrev pub unmet : List End → Answer → Option Unmet
unmet ends a = option_map (unmet_by ends a.question) (shown_by ends a.found)

-- the same of a question that is one of some
abbrev pub unmet_if : (Question → Bool) → List End → Answer → List Unmet
unmet_if among ends a = cond (among a.question) (option_to_list (unmet ends a)) []

-- all questions among some that aren't so, in order
abbrev pub unmet_among : (Question → Bool) → List End → List Answer → List Unmet
unmet_among among ends answers = flat_map (unmet_if among ends) answers

-- the line of a schedule, if there is one
abbrev pub first_line : Option (List Block) → List ℕ
first_line None = []
first_line (Some s) = schedule_line s

-- the lines of what isn't so
abbrev pub unmet_lines : Unmet → List ℕ
unmet_lines u = u.head ++ codes " " ++ u.asked ++ codes "\n" ++ first_line u.first ++ schedule_line u.steps

-- the last line where walks were taken
unfoldable pub walks_line : ℕ → List ℕ
walks_line walks = codes "incomplete " ++ decimal walks ++ codes " walks\n"

-- the last lines: of walks how many were taken; else which conditions were reached, a lasso, if there is one, and whether the ends are all
abbrev pub last_lines : Bool → Exploration → List Answer → List ℕ
last_lines true found answers = walks_line found.worlds
last_lines false found answers =
    flat_map unmet_lines (unmet_among is_never found.ends.items answers) ++ lasso_text found.lasso ++ extent_line found.complete found.worlds

-- the ends that are told, the words and what is asked of calls that aren't so, and the last lines
abbrev pub answers_text : Bool → Show → Exploration → List Answer → List ℕ
answers_text walks show found answers =
    ends_text show 1 (told_ends show found.ends.items)
    ++ flat_map unmet_lines (unmet_among (λ q. not (is_never q)) found.ends.items answers) ++ last_lines walks found answers
