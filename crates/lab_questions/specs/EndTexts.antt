-- The lines of ends, of a lasso, and the last one.
use Rattle.std.specs.Prelude.{ℕ, ◌+◌, ◌≡◌, Bool, true, false, not, Option, Some, None, List, [], ◌∷◌, ◌++◌, codes, filter, bytes_eq, slice_get}
use Rattle.std.specs.Fmt.{decimal}
use Rattle.std.specs.Option.{option_and_then}
use Rattle.lab_sched.specs.declared.schedule.Block.{Block}
use Rattle.lab_sched.specs.ScheduleTexts.{schedule_text}
use Rattle.lab_worlds.specs.declared.ends.End.{End}
use Rattle.lab_worlds.specs.declared.exploration.Lasso.{Lasso}
use Rattle.lab_worlds.specs.Calls.{Alongside}
use Rattle.lab_questions.specs.declared.asked.Show.{Show}
use Rattle.lab_questions.specs.Shown.{shown_text}

-- what is told of the world of an end
abbrev pub text_of : Show → End → List ℕ
text_of show e = shown_text show e.world

-- whether the second end has another text than the first
abbrev pub has_other_text : Show → End → End → Bool
has_other_text show e f = not (bytes_eq (text_of show e) (text_of show f))

-- the ends that are told: each without the later ones that have its text
unfoldable pub told_ends : Show → List End → List End
told_ends show [] = []
told_ends show (e ∷ es) = e ∷ filter (has_other_text show e) (told_ends show es)

-- this number, counted from 0, is that of the end
abbrev pub IsAt : List End → ℕ → End → Type 0
IsAt ends i e = slice_get ends i ≡ Some e

-- these numbers are those of the ends that are told, in order
abbrev pub AreTold : Show → List End → List ℕ → Type 0
AreTold show ends numbers = Alongside (IsAt ends) numbers (told_ends show ends)

-- of ends of which those with these numbers are told: the one that is told behind so many others, if there is one
abbrev pub told_end : List End → List ℕ → ℕ → Option End
told_end ends numbers before = option_and_then (slice_get ends) (slice_get numbers before)

-- the line of a schedule
unfoldable pub schedule_line : List Block → List ℕ
schedule_line blocks = codes "schedule " ++ schedule_text blocks ++ codes "\n"

-- the lines of end number n: its text, and then a schedule
unfoldable pub end_lines : ℕ → List ℕ → List Block → List ℕ
end_lines n text blocks = codes "end " ++ decimal n ++ codes "\n" ++ text ++ schedule_line blocks

-- the lines of ends, numbered from n on
unfoldable pub ends_text : Show → ℕ → List End → List ℕ
ends_text show n [] = []
ends_text show n (e ∷ es) = end_lines n (text_of show e) e.schedule ++ ends_text show (n + 1) es

-- the line above a lasso
abbrev pub endless_line : List ℕ
endless_line = codes "endless\n"

-- the line of the steps of a lasso
unfoldable pub lasso_line : List Block → List ℕ
lasso_line blocks = codes "round " ++ schedule_text blocks ++ codes "\n"

-- the lines of a lasso, if there is one
abbrev pub lasso_text : Option Lasso → List ℕ
lasso_text None = []
lasso_text (Some r) = endless_line ++ schedule_line r.schedule ++ lasso_line r.steps

-- whether an exploration is complete
abbrev pub extent_text : Bool → List ℕ
extent_text true = codes "complete"
extent_text false = codes "incomplete"

-- the last line
unfoldable pub extent_line : Bool → ℕ → List ℕ
extent_line complete worlds = extent_text complete ++ codes " " ++ decimal worlds ++ codes " worlds\n"
