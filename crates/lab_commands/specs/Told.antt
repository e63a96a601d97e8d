-- What `explore` writes of answers.
use Rattle.std.specs.Prelude.{ℕ, ◌≡◌, ◌-◌, ◌*◌, ◌==◌, ◌||◌, nat_lt, min, is_some, if◌then◌else◌, Bool, true, false, Option, Some, None, List, [], ◌++◌, codes, string_bytes}
use Rattle.std.specs.Option.{option_map}
use Rattle.lab_arguments.specs.declared.question.Choice.{Choice}
use Rattle.lab_arguments.specs.declared.question.Choice.TheVariants.{Bad, End}
use Rattle.lab_sched.specs.declared.schedule.Block.{Block}
use Rattle.lab_sched.specs.ScheduleTexts.{schedule_text}
use Rattle.lab_worlds.specs.declared.ends.End.{End as Ending}
use Rattle.lab_worlds.specs.declared.exploration.Limits.{Limits}
use Rattle.lab_worlds.specs.declared.exploration.Met.{Met}
use Rattle.lab_worlds.specs.declared.exploration.Met.TheVariants as met
use Rattle.lab_worlds.specs.Met.{is_refused}
use Rattle.lab_questions.specs.declared.answers.Answers.{Answers}
use Rattle.lab_questions.specs.declared.limit.LimitMet.{LimitMet}
use Rattle.lab_questions.specs.declared.limit.Standing.{Standing}
use Rattle.lab_questions.specs.declared.limit.LimitMet.TheVariants.{Worlds, Steps, Memory}
use Rattle.lab_questions.specs.Answered.{bad_schedule}
use Rattle.lab_questions.specs.EndTexts.{told_end}
use Rattle.lab_questions.specs.Findings.{answers_line}
use Rattle.lab_places.specs.Placed.{SourceSeen, placed}
use Rattle.lab_commands.specs.declared.explore.Search.{Search}

-- the end that is told with number n, from 1
abbrev pub numbered_end : Answers → ℕ → Option Ending
numbered_end a n = if n == 0 then None else told_end a.exploration.ends.items a.told.items (n - 1)

-- the schedule that is chosen, if there is one
abbrev pub chosen_in : Answers → Choice → Option (List Block)
chosen_in a Bad = bad_schedule a
chosen_in a (End n) = option_map (λ e. e.schedule) (numbered_end a n)

-- its line, if there is one
abbrev pub line_or_none : Option (List Block) → List ℕ
line_or_none None = []
line_or_none (Some blocks) = schedule_text blocks ++ codes "\n"

-- all that is told of a search: as JSON, or as lines, with where processes stand in these sources
abbrev pub all_told : List (Option SourceSeen) → Search → Bool → List ℕ
all_told sources s true = answers_line s.answers s.inquiry.reach s.limit
all_told sources s false = placed sources (string_bytes s.answers.text)

-- what tells what was found: the line of the schedule that is chosen, or all answers
abbrev pub told_by : List (Option SourceSeen) → Search → Option Choice → List ℕ
told_by sources s None = all_told sources s s.inquiry.json
told_by sources s (Some choice) = line_or_none (chosen_in s.answers choice)

abbrev pub told_bytes : List (Option SourceSeen) → Search → List ℕ
told_bytes sources s = told_by sources s s.inquiry.choice

-- no limit is named: the search visited everything, memory was refused, or it took walks
abbrev pub names_no_limit : Search → Bool
names_no_limit s = s.answers.exploration.complete || is_refused s.answers.exploration || is_some s.inquiry.reach.walks

-- n worlds were visited, and a hundred times as many can be next, where more than n can be asked for
abbrev pub limit_of_worlds : ℕ → LimitMet
limit_of_worlds n = Worlds n (if nat_lt n 100000000 then Some (min (n * 100) 100000000) else None)

-- the limit is named that a search met, if that isn't the one of worlds: of a process that goes on too long its number
abbrev pub NamesMet : Limits → Option Met → Option LimitMet → Type 0
NamesMet limits (Some (met.Steps r)) named = (s : Standing) × (named ≡ Some (Steps r.pid limits.steps s))
NamesMet limits (Some (met.Memory bytes)) named = named ≡ Some (Memory limits.memory)
NamesMet limits other named = named ≡ None
