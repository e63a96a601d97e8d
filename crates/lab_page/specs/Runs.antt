-- What a page holds of a run by a schedule.
use Rattle.std.specs.Prelude.{ℕ, nat_le, Bool, Option, Some, None, List, [], ◌∷◌, ◌++◌, map, length, codes, slice_get}
use Rattle.serde_json.specs.Data.{Data, null, string, boolean, object, member, no_members}
use Rattle.serde_json.specs.Written.{compact_text}
use Rattle.lab_sched.specs.Schedules.{steps_of}
use Rattle.lab_sched.specs.Verdicts.{verdict_of, verdict_word}
use Rattle.lab_sched.specs.Worlds.{Process, WorldState, machine_of}
use Rattle.lab_sched.specs.declared.schedule.Block.{Block}
use Rattle.lab_texts.specs.Reports.{report_text}
use Rattle.lab_trace.specs.Ends.{end_lines}
use Rattle.lab_trace.specs.Forms.{Form, form_for}
use Rattle.lab_told.specs.Scenes.{Scene, first_scene, scene_after}
use Rattle.lab_told.specs.Tallies.{TallyState}
use Rattle.lab_moments.specs.Between.{between_data}
use Rattle.lab_moments.specs.Holds.{holds_data}
use Rattle.lab_template.specs.Limits.{most_whole}
use Rattle.lab_moments.specs.Pasts.{Past, first_past}
use Rattle.lab_page.specs.Moments.{moments, past_then}
use Rattle.lab_page.specs.Sources.{Source, programs}
use Rattle.lab_page.specs.Stores.{stores_data}
use Rattle.lab_page.specs.declared.run.Stored.{Stored}
use Rattle.lab_moments.specs.States.{states}
use Rattle.lab_moments.specs.Values.{block_data, list, naturals, all_below}
use Rattle.lab_moments.specs.Waits.{waits_data, circles_data}
use Rattle.lab_moments.specs.Words.{texts_data}

-- the blocks of a schedule
abbrev pub schedule_data : List Block → Data
schedule_data s = list (map block_data s)

-- the bytes that a process has written, where it is there
abbrev pub output_of : Option Process → Data
output_of None = null
output_of (Some s) = naturals (machine_of s).output

-- what each process has written
abbrev pub outputs : WorldState → Data
outputs w = list (all_below (length w.processes) (λ p. output_of (slice_get w.processes p) ∷ []))

-- how a run ended: the verdict, where the processes stand, the report, and what each process has written
abbrev pub ended : Form → WorldState → TallyState → List Data
ended v w t =
    string (verdict_word (verdict_of w)) ∷ string (end_lines v w t) ∷ string (report_text w) ∷ outputs w ∷ []

-- what a run left: the steps since the last line, the units that are taken, the steps that sent the messages which nobody has
-- received, who could let each waiting process go on, the circles of processes that wait for one another, and what the words of the
-- moments mean
abbrev pub left : WorldState → TallyState → Past → List Data
left w t h =
    between_data h.between ∷ holds_data h.holds ∷ naturals h.unreceived ∷ waits_data w t h.objects ∷ circles_data w h.holds
    ∷ texts_data h.words ∷ []

-- the end of a run
unfoldable pub outcome_at : Form → Scene → Past → Data
outcome_at v s h = list (ended v s.world s.tally ++ left s.world s.tally h)

-- whether a page of a schedule has its counted steps too
abbrev pub is_whole : List Block → Bool
is_whole s = nat_le (length (steps_of s)) most_whole

-- a run by its parts: the moments, the end, the schedule, and whether each step with an effect has a moment
abbrev pub run_with : List Data → Data → Data → Bool → Data
run_with moments outcome blocks whole =
    object (member (codes "moments") (list moments) (member (codes "outcome") outcome
    (member (codes "schedule") blocks (member (codes "whole") (boolean whole) no_members))))

-- the run from a scene on by a schedule; the first moment is that before the first step
unfoldable pub run_from : Form → Bool → Scene → List Block → Data
run_from v whole x s =
    run_with (states x.world ∷ moments v whole x (first_past x.world) (steps_of s))
    (outcome_at v (scene_after x (steps_of s)) (past_then x (steps_of s) (first_past x.world))) (schedule_data s) whole

-- the run of a world by a schedule; its lines are without labels
unfoldable pub run_data : WorldState → List Block → Data
run_data w s = run_from (form_for (length (steps_of s)) (length w.processes) []) (is_whole s) (first_scene w) s

-- what a page holds of a run: the processes, the run, and what its steps store
abbrev pub page_data : Data → Data → List Stored → Data
page_data processes run stores =
    object (member (codes "format") (string (codes "lc3lab-page-3")) (member (codes "processes") processes (member (codes "run") run
    (member (codes "stores") (stores_data stores) no_members))))

-- what a page holds of the run of a world by a schedule, with names and sources of its processes, and what its steps store
abbrev pub run_page_data : WorldState → List Block → List (List ℕ) → List (Option Source) → List Stored → Data
run_page_data w s names sources stores = page_data (programs (length w.processes) names sources) (run_data w s) stores

-- the JSON of what a page holds of that run
abbrev pub run_json : WorldState → List Block → List (List ℕ) → List (Option Source) → List Stored → List ℕ
run_json w s names sources stores = compact_text (run_page_data w s names sources stores)
