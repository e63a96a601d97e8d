-- The runs on a page of ends, and what `explore` appends.
use Rattle.std.proofs.Common.{ℕ, ◌+◌, ◌≡◌, true, false, Option, IfSome, List, [], add-one, ap, length, refl, subst}
use Rattle.std.specs.Io.KnownBytes.{Appends}
use Rattle.serde_json.specs.Data.{Data}
use Rattle.lc3_table.specs.declared.profile.Profile.{Profile}
use Rattle.lab_sched.specs.Starts.{fresh}
use Rattle.lab_sched.specs.Worlds.{WorldState}
use Rattle.lab_sched.specs.declared.process.Program.{Program}
use Rattle.lab_questions.specs.EndTexts.{told_end}
use Rattle.lab_questions.specs.declared.answers.Answers.{Answers}
use Rattle.lab_places.specs.Placed.{SourceSeen}
use Rattle.lab_template.specs.Pages.{around, page_text}
use Rattle.lab_page.specs.Ends.{EndList, ends_json, with_end}
use Rattle.lab_page.specs.Sources.{programs, sources_shown}
use Rattle.lab_page.specs.Worlds.{Worlds}
use Rattle.lab_page.specs.declared.ends.Asked.{Asked}
use Rattle.lab_page.specs.declared.ends.Extent.{Extent}
use Rattle.lab_page.specs.declared.source.Source.{Source}
use Rattle.lab_commands.specs.declared.explore.Search.{Search}
use Rattle.lab_commands.specs.Found.{IsFound}
use Rattle.lab_commands.specs.Told.{told_bytes}
use Rattle.lab_shell.specs.declared.ends_page.Explored.{Explored}
use Rattle.lab_shell.specs.Private.Explored.{HasExplored, IsTraceOf}
use Rattle.lab_shell.specs.Private.Runs.{HasRuns, IsPageOfEnds, start_of, runs_to, with_run}
use Rattle.lab_shell.specs.Private.Shown.{ArePictured}

-- no run to no end
pub runs_none : (start : WorldState) (sources : List (Option Source)) (a : Answers) → runs_to start sources a 0 ≡ record { json = []; count = 0; full = false }
unfolding runs_to
runs_none start sources a = refl

-- the run to the next end behind those before
pub runs_next : (start : WorldState) (sources : List (Option Source)) (a : Answers) (n : ℕ)
    → runs_to start sources a (n + 1) ≡ with_run start sources (runs_to start sources a n) (told_end a.exploration.ends.items a.told.items n)
unfolding runs_to
runs_next start sources a n = ap (runs_to start sources a) (add-one n)

-- once there is no room for a run, none is added
pub full_stays : (l : EndList) (e : List ℕ) → l.full ≡ true → with_end l e ≡ l
full_stays l e full = rw full refl

-- the page has these runs
pub page_of_runs : {T P : Type 0} (e : Explored T P) (l : EndList) (worlds : Option Worlds) (bytes : List ℕ)
    (names : List (List ℕ)) (others : EndList) (asked : List Asked) (endless : Option Data) (extent : Extent)
    → extent.complete ≡ e.search.answers.exploration.complete
    → bytes ≡ page_text (around e.given.job.now.texts.now.template)
    (ends_json (programs (length e.given.programs.programs.items) names (sources_shown e.given.sources.items)) l others asked endless extent worlds)
    → HasRuns e l worlds bytes
page_of_runs e l worlds bytes names others asked endless extent complete page =
    record { names = names; others = others; asked = asked; endless = endless; extent = extent; complete = complete; page = page }

-- the page has the runs to the ends that are told
pub is_page_of_ends : {T P : Type 0} (e : Explored T P) (l : EndList) (worlds : Option Worlds) (bytes : List ℕ)
    → l ≡ runs_to (start_of e.given) e.given.sources.items e.search.answers (length e.search.answers.told.items)
    → IfSome worlds (λ w. ArePictured (start_of e.given) w.edges)
    → HasRuns e l worlds bytes
    → IsPageOfEnds e bytes
is_page_of_ends e l worlds bytes is pictured runs =
    record { worlds = worlds; pictured = pictured; runs = subst (λ l. HasRuns e l worlds bytes) is runs }

-- what was appended tells what was found
pub has_explored : (profile : Profile) (programs : List Program) (s : Search) (sources : List (Option SourceSeen)) (old between new : Option (List ℕ))
    → IsFound (fresh profile programs) s
    → Appends old between (told_bytes sources s)
    → ((text : List ℕ) × IsTraceOf (fresh profile programs) text × Appends between new text)
    → HasExplored profile old new
has_explored profile programs s sources old between new found told behind =
    record {
      programs = programs;
      search = s;
      found = found;
      sources = sources;
      between = between;
      told = told;
      trace = behind.0;
      traced = behind.1;
      behind = behind.2;
    }
