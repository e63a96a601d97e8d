-- The sources of the processes of a session.
use Rattle.std.specs.Prelude.{ℕ, Bool, Option, List, slice_get}
use Rattle.std.specs.Option.{option_and_then, is_some}
use Rattle.std.specs.List.{list_any}
use Rattle.lab_sources.specs.declared.source.Listing.{Listing}

-- the source of process pid, where it was given as one
abbrev pub listing_of : List (Option Listing) → ℕ → Option Listing
listing_of ls pid = option_and_then (λ l. l) (slice_get ls pid)

-- whether labels are read: where a process was given as a source
abbrev pub has_labels : List (Option Listing) → Bool
has_labels ls = list_any is_some ls
