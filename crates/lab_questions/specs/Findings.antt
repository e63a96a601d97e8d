-- The answers as one line of JSON.
use Rattle.std.specs.Prelude.{ℕ, ◌+◌, ◌&&◌, Bool, true, false, not, nat_le, nat_lt, if◌then◌else◌, Option, Some, None, List, [], ◌∷◌, ◌++◌, codes, map, slice_get, string_bytes}
use Rattle.std.specs.Fmt.{decimal}
use Rattle.std.specs.List.{enumerate_from}
use Rattle.lab_sched.specs.declared.schedule.Block.{Block}
use Rattle.lab_sched.specs.Verdicts.{verdict_word}
use Rattle.lab_worlds.specs.declared.ends.End.{End}
use Rattle.lab_worlds.specs.declared.exploration.Exploration.{Exploration}
use Rattle.lab_worlds.specs.declared.exploration.Limits.{Limits}
use Rattle.lab_worlds.specs.declared.random.Walks.{Walks}
use Rattle.lab_worlds.specs.Met.{is_refused}
use Rattle.lab_questions.specs.declared.answers.Answers.{Answers}
use Rattle.lab_questions.specs.declared.asked.Question.{Question}
use Rattle.lab_questions.specs.declared.asked.Reach.{Reach}
use Rattle.lab_questions.specs.declared.asked.Show.{Show}
use Rattle.lab_questions.specs.declared.limit.LimitMet.{LimitMet}
use Rattle.lab_questions.specs.declared.limit.LimitMet.TheVariants.{Worlds, Steps, Memory}
use Rattle.lab_questions.specs.declared.limit.Standing.{Standing}
use Rattle.lab_questions.specs.Asked.{is_never}
use Rattle.lab_questions.specs.EndTexts.{extent_text}
use Rattle.lab_questions.specs.Failures.{judges}
use Rattle.lab_questions.specs.LeftMembers.{left_member}
use Rattle.lab_questions.specs.Members.{bases_told, lasso_json, holds_json}
use Rattle.lab_questions.specs.ProcessMembers.{processes_json}
use Rattle.lab_questions.specs.Texts.{Unmet, unmet_among}
use Rattle.lab_questions.specs.Values.{text_json, schedule_json, truth_json, array_json, member, further_members, members_json, name_json, object_json}

-- the name, if it is to be told
abbrev pub name_if : Bool → List ℕ → List (List ℕ)
name_if false name = []
name_if true name = name ∷ []

-- what walks met of so many that were to be taken, and whether they were the first stage of more
abbrev pub walk_stop : Exploration → ℕ → Bool → List (List ℕ)
walk_stop found count first =
    if is_refused found then codes "memory" ∷ [] else
    if nat_lt found.worlds count then codes "limit" ∷ [] else
    name_if first (codes "first")

-- the names of the limits that walks met
abbrev pub walk_limits : Exploration → ℕ → Bool → List (List ℕ)
walk_limits found count first = walk_stop found count first ++ codes "random" ∷ []

-- these names, or where there are none `limit`
abbrev pub or_limit : List (List ℕ) → List (List ℕ)
or_limit [] = codes "limit" ∷ []
or_limit (name ∷ names) = name ∷ names

-- the names of the limits that a search met, by whether it visited as many worlds as it was to,
-- whether memory was refused, and whether it was the first stage of more
abbrev pub stops_named : Bool → Bool → Bool → List (List ℕ)
stops_named full refused first =
    or_limit (name_if (full && not first) (codes "worlds") ++ name_if refused (codes "memory") ++ name_if (full && first) (codes "first"))

-- the names of the limits that a search met, if it isn't complete
abbrev pub search_limits : Exploration → Limits → Bool → List (List ℕ)
search_limits found limits first =
    if found.complete then [] else stops_named (nat_le limits.worlds found.worlds) (is_refused found) first

-- the names of the limits that were met: by walks, or by a search
abbrev pub limits_met : Exploration → Limits → Bool → Option Walks → List (List ℕ)
limits_met found limits first None = search_limits found limits first
limits_met found limits first (Some walks) = walk_limits found walks.count first

-- a number, if there is one
abbrev pub number_or_null : Option ℕ → List ℕ
number_or_null None = codes "null"
number_or_null (Some n) = decimal n

-- a process that took too many steps, where it stands, and its line
unfoldable pub standing_json : ℕ → Standing → List ℕ
standing_json process standing =
    object_json (
    member (codes "met") (name_json (codes "steps"))
    ∷ member (codes "process") (decimal process)
    ∷ member (codes "place") (text_json (string_bytes standing.place))
    ∷ member (codes "line") (number_or_null standing.line)
    ∷ [])

-- the limit that a search met, if that is known
abbrev pub limit_json : Option LimitMet → List ℕ
limit_json None = codes "null"
limit_json (Some (Worlds visited more)) = object_json (member (codes "met") (name_json (codes "worlds")) ∷ [])
limit_json (Some (Steps process steps standing)) = standing_json process standing
limit_json (Some (Memory memory)) = object_json (member (codes "met") (name_json (codes "memory")) ∷ [])

-- what is counted: worlds, or walks in their place
abbrev pub unit_text : Option Walks → List ℕ
unit_text None = codes "worlds"
unit_text (Some walks) = codes "walks"

-- an end under a number
unfoldable pub end_json : Show → ℕ → End → List ℕ
end_json show n e =
    codes "{" ++ members_json (
    member (codes "end") (decimal n)
    ∷ member (codes "processes") (processes_json show.out e.world)
    ∷ member (codes "verdict") (name_json (verdict_word e.verdict))
    ∷ []) (left_member show.left e.world.kernel ++ further_members (member (codes "schedule") (schedule_json e.schedule) ∷ []) (codes "}"))

-- an end, if it is there
abbrev pub end_or_null : Show → ℕ → Option End → List ℕ
end_or_null show n None = codes "null"
end_or_null show n (Some e) = end_json show n e

-- the ends with these numbers, counted from 0, under the numbers 1, 2 and so on
unfoldable pub ends_told : Show → List End → List ℕ → List (List ℕ)
ends_told show ends numbers = map (λ told. end_or_null show (told.0 + 1) (slice_get ends told.1)) (enumerate_from 0 numbers)

-- the schedules that show that something isn't so, the one that is compared first
abbrev pub schedules_json : Option (List Block) → List Block → List ℕ
schedules_json None steps = array_json (schedule_json steps ∷ [])
schedules_json (Some first) steps = array_json (schedule_json first ∷ schedule_json steps ∷ [])

-- what isn't so: what must never be, with the schedule that leads there, or what is required, with the schedules that show it
unfoldable pub unmet_json : Unmet → List ℕ
unmet_json u =
    if u.never then object_json (member (codes "never") (text_json u.asked) ∷ member (codes "schedule") (schedule_json u.steps) ∷ [])
    else object_json (member (codes "require") (text_json u.asked) ∷ member (codes "schedules") (schedules_json u.first u.steps) ∷ [])

-- all questions among some that aren't so
abbrev pub unmet_of : (Question → Bool) → Answers → List Unmet
unmet_of among answers = unmet_among among answers.exploration.ends.items answers.answers.items

-- the last members, and the end of the line
unfoldable pub last_part : Answers → List ℕ
last_part answers =
    further_members (
    member (codes "empty") (array_json (bases_told answers.empty.items))
    ∷ member (codes "fair") (truth_json answers.exploration.fair)
    ∷ member (codes "endless") (lasso_json answers.exploration.lasso)
    ∷ member (codes "holds") (holds_json (judges answers.answers.items) answers.failure)
    ∷ []) (codes "}\n")

-- the members for the ends, and for what isn't as it has to be, and those behind them
unfoldable pub found_part : Answers → List ℕ
found_part answers =
    further_members (
    member (codes "ends") (array_json (ends_told answers.show answers.exploration.ends.items answers.told.items))
    ∷ member (codes "not") (array_json (map unmet_json (unmet_of (λ q. not (is_never q)) answers)))
    ∷ member (codes "reached") (array_json (map unmet_json (unmet_of is_never answers)))
    ∷ []) (last_part answers)

-- the answers as one object, and the end of the line
abbrev pub answers_line : Answers → Reach → Option LimitMet → List ℕ
answers_line answers reach limit =
    codes "{" ++ members_json (
    member (codes "search") (name_json (extent_text answers.exploration.complete))
    ∷ member (codes "limits") (array_json (map name_json (limits_met answers.exploration reach.limits reach.is_stage reach.walks)))
    ∷ member (codes "limit") (limit_json limit)
    ∷ member (unit_text reach.walks) (decimal answers.exploration.worlds)
    ∷ []) (found_part answers)
