-- Status lines without where they lie in memory, and lines behind the first one.
use Rattle.std.specs.Prelude.{ℕ, Option, List, ◌∷◌}
use Rattle.std.specs.List.{flat_map}
use Rattle.lab_places.specs.declared.status.Standing.{Standing}
use Rattle.lab_places.specs.Statuses.{StandingSeen}
use Rattle.lab_places.specs.Placed.{SourceSeen, placed_line}

-- a status line as the definitions see it
abbrev pub standing_seen : Standing → StandingSeen
standing_seen s = record { pid = s.pid; address = s.address; shown = s.shown.now }

-- further lines, each behind a line feed
abbrev pub more_lines : List (Option SourceSeen) → List (List ℕ) → List ℕ
more_lines sources lines = flat_map (λ line. 10 ∷ placed_line sources line) lines
