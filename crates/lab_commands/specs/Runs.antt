-- What `step` and `run` write.
use Rattle.std.specs.Prelude.{ℕ, ◌≡◌, Bool, cond, Option, List, [], ◌∷◌, ◌++◌, codes, length, ◌==◌}
use Rattle.lc3_table.specs.declared.profile.Profile.{Profile}
use Rattle.lab_sched.specs.declared.process.Program.{Program}
use Rattle.lab_sched.specs.declared.schedule.Block.{Block}
use Rattle.lab_sched.specs.Starts.{fresh}
use Rattle.lab_sched.specs.Worlds.{WorldState, run}
use Rattle.lab_sched.specs.Schedules.{steps_of}
use Rattle.lab_sched.specs.ScheduleTexts.{schedule_text}
use Rattle.lab_texts.specs.Reports.{report_text}
use Rattle.lab_places.specs.Placed.{SourceSeen, placed}
use Rattle.lab_commands.specs.Plain.{plain_output}

-- the report on some programs, on machines of this profile, after the steps of some schedule, with where processes stand in some sources
abbrev pub IsReport : Profile → List ℕ → Type 0
IsReport profile text = (sources : List (Option SourceSeen)) × (programs : List Program) × (steps : List ℕ)
    × (text ≡ placed sources (report_text (run (fresh profile programs) steps)))

-- a text behind a blank, or nothing where it is empty
abbrev pub behind_blank : List ℕ → List ℕ
behind_blank text = cond (length text == 0) [] (32 ∷ text)

-- the report on a run, and a line with its schedule
abbrev pub run_text : WorldState → List Block → List ℕ
run_text w schedule = report_text w ++ codes "schedule" ++ behind_blank (schedule_text schedule) ++ codes "\n"

-- the same with where processes stand in these sources, and behind it, where that is wanted, what they have written, as it is
abbrev pub run_bytes : List (Option SourceSeen) → Bool → WorldState → List Block → List ℕ
run_bytes sources plain w schedule = placed sources (run_text w schedule) ++ cond plain (plain_output w) []

-- what is written of the run of some programs, with some sources, by some schedule, from their start to the world after its steps
abbrev pub IsToldRun : Profile → Bool → List ℕ → Type 0
IsToldRun profile plain bytes = (sources : List (Option SourceSeen)) × (programs : List Program) × (schedule : List Block)
    × (bytes ≡ run_bytes sources plain (run (fresh profile programs) (steps_of schedule)) schedule)
