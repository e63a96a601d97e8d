-- The sources of programs.
use Rattle.std.specs.Prelude.{Option, List, map}
use Rattle.std.specs.Option.{option_map}
use Rattle.std.specs.List.{zip}
use Rattle.std.specs.declared.string.String.{String}
use Rattle.std.specs.declared.alloc.Global.{Global}
use Rattle.lab_places.specs.Placed.{SourceSeen}
use Rattle.lab_sources.specs.declared.source.Source.{Source}
use Rattle.lab_commands.specs.declared.programs.Programs.{Programs}

-- a source with its lines, where there is one
abbrev pub with_lines : Option Source → List (String Global) → Option SourceSeen
with_lines source lines = option_map (λ s. record { program = s.assembled; lines = lines }) source

-- the sources with their lines, of each program where it was given as one
abbrev pub numbered : Programs → List (Option SourceSeen)
numbered given = map (λ row. with_lines row.0 row.1.items) (zip given.sources.items given.lines.items)
