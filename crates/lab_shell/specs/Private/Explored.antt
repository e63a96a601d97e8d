-- What `explore` and `trace` append to the output.
use Rattle.std.specs.Prelude.{ℕ, ◌≡◌, ◌⊎◌, Option, List, []}
use Rattle.std.specs.Io.KnownBytes.{Appends}
use Rattle.lc3_table.specs.declared.profile.Profile.{Profile}
use Rattle.lab_sched.specs.Starts.{fresh}
use Rattle.lab_sched.specs.Worlds.{WorldState}
use Rattle.lab_sched.specs.declared.process.Program.{Program}
use Rattle.lab_trace.specs.Traces.{trace_text}
use Rattle.lab_places.specs.Placed.{SourceSeen}
use Rattle.lab_commands.specs.declared.explore.Search.{Search}
use Rattle.lab_commands.specs.Found.{IsFound}
use Rattle.lab_commands.specs.Told.{told_bytes}

-- the trace of some programs, on machines of this profile, by some steps, with the labels of some sources
abbrev pub IsTrace : Profile → List ℕ → Type 0
IsTrace profile text = (programs : List Program) × (sources : List (Option SourceSeen)) × (steps : List ℕ)
    × (text ≡ trace_text (fresh profile programs) sources steps)

-- the trace of a laboratory by some steps, with the labels of some sources, or nothing
abbrev pub IsTraceOf : WorldState → List ℕ → Type 0
IsTraceOf start text = (text ≡ []) ⊎ ((sources : List (Option SourceSeen)) × (steps : List ℕ) × (text ≡ trace_text start sources steps))

-- what tells what was found of some programs, on machines of this profile, was appended, and behind it a trace of them, or nothing
pub record HasExplored (profile : Profile) (old new : Option (List ℕ)) : Type 0 where
  pub programs : List Program
  pub search : Search
  pub found : IsFound (fresh profile programs) search
  pub sources : List (Option SourceSeen)
  pub between : Option (List ℕ)
  pub told : Appends old between (told_bytes sources search)
  pub trace : List ℕ
  pub traced : IsTraceOf (fresh profile programs) trace
  pub behind : Appends between new trace
