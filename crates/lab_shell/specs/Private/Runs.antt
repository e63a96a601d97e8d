-- The runs on a page of ends.
use Rattle.std.specs.Prelude.{ℕ, zero, suc, ◌≡◌, false, Option, Some, None, IfSome, List, [], length}
use Rattle.serde_json.specs.Data.{Data}
use Rattle.serde_json.specs.Written.{compact_text}
use Rattle.lab_sched.specs.Starts.{fresh}
use Rattle.lab_sched.specs.Worlds.{WorldState}
use Rattle.lab_sched.specs.declared.schedule.Block.{Block}
use Rattle.lab_worlds.specs.declared.ends.End.{End}
use Rattle.lab_questions.specs.EndTexts.{told_end}
use Rattle.lab_questions.specs.declared.answers.Answers.{Answers}
use Rattle.lab_template.specs.Pages.{around, page_text}
use Rattle.lab_page.specs.Ends.{EndList, end_data, ends_json, with_end}
use Rattle.lab_page.specs.Runs.{run_data}
use Rattle.lab_page.specs.Sources.{programs, sources_shown}
use Rattle.lab_page.specs.Stores.{stores_of}
use Rattle.lab_page.specs.Worlds.{Worlds}
use Rattle.lab_page.specs.declared.ends.Asked.{Asked}
use Rattle.lab_page.specs.declared.ends.Extent.{Extent}
use Rattle.lab_page.specs.declared.source.Source.{Source}
use Rattle.lab_shell.specs.declared.ends_page.Explored.{Explored}
use Rattle.lab_shell.specs.declared.given.Given.{Given}
use Rattle.lab_shell.specs.Private.Shown.{ArePictured}

-- the laboratory of programs, before its first step
abbrev pub start_of : {T P : Type 0} → Given T P → WorldState
start_of g = fresh g.setup.now.profile g.programs.programs.items

-- the JSON of a laboratory's run by a schedule, with a number, and with what its steps store where these sources have words
abbrev pub run_json : WorldState → List (Option Source) → List Block → ℕ → List ℕ
run_json start sources schedule number = compact_text (end_data number (run_data start schedule) (stores_of start schedule sources))

-- the runs on a page with the run to an end behind them, if there is one and room for it
abbrev pub with_run : WorldState → List (Option Source) → EndList → Option End → EndList
with_run start sources l None = l
with_run start sources l (Some e) = with_end l (run_json start sources e.schedule e.calls)

-- the runs to the first n ends that are told, as far as there is room for them
unfoldable pub runs_to : WorldState → List (Option Source) → Answers → ℕ → EndList
runs_to start sources a zero = record { json = []; count = 0; full = false }
runs_to start sources a (suc n) = with_run start sources (runs_to start sources a n) (told_end a.exploration.ends.items a.told.items n)

-- a page has these runs to ends and this picture of all worlds, by the programs, their sources and the answers
pub record HasRuns {T P : Type 0} (e : Explored T P) (l : EndList) (worlds : Option Worlds) (bytes : List ℕ) : Type 0 where
  pub names : List (List ℕ)
  pub others : EndList
  pub asked : List Asked
  pub endless : Option Data
  pub extent : Extent
  pub complete : extent.complete ≡ e.search.answers.exploration.complete
  pub page : bytes ≡ page_text (around e.given.job.now.texts.now.template)
      (ends_json (programs (length e.given.programs.programs.items) names (sources_shown e.given.sources.items)) l others asked endless extent worlds)

-- a page has the runs to the ends that are told, and a picture of all worlds that the programs can come to, if it has one
pub record IsPageOfEnds {T P : Type 0} (e : Explored T P) (bytes : List ℕ) : Type 0 where
  pub worlds : Option Worlds
  pub pictured : IfSome worlds (λ w. ArePictured (start_of e.given) w.edges)
  pub runs : HasRuns e (runs_to (start_of e.given) e.given.sources.items e.search.answers (length e.search.answers.told.items)) worlds bytes
