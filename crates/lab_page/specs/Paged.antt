-- What a page holds, by what it is made of.
use Rattle.std.specs.Prelude.{ℕ, List, map, string_bytes}
use Rattle.std.specs.Option.{option_map}
use Rattle.lab_sched.specs.Worlds.{WorldState}
use Rattle.lab_page.specs.Ends.{endless_shown, ends_json}
use Rattle.lab_page.specs.Runs.{run_json}
use Rattle.lab_page.specs.Sources.{programs, sources_shown}
use Rattle.lab_page.specs.Stores.{stores_of}
use Rattle.lab_page.specs.declared.ends.Found.{Found}
use Rattle.lab_page.specs.declared.paging.PagedRun.{PagedRun}
use Rattle.lab_page.specs.declared.paging.Roster.{Roster}

-- the JSON of what a page holds of a run of a world, whose processes are called so
abbrev pub paged_json : WorldState → PagedRun → Roster → List ℕ
paged_json w run roster =
    run_json w run.schedule.now (map string_bytes roster.names.now) (sources_shown roster.sources.now)
    (stores_of w run.schedule.now roster.sources.now)

-- the JSON of what a page holds of what an exploration of so many processes found, which are called so
abbrev pub found_json : ℕ → Roster → Found → List ℕ
found_json count roster found =
    ends_json (programs count (map string_bytes roster.names.now) (sources_shown roster.sources.now)) found.ends.now found.others.now
    found.asked.now (option_map endless_shown found.endless) found.extent found.worlds.now
