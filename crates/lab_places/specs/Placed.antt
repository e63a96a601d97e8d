-- Where processes stand in their sources, behind their status lines.
use Rattle.std.specs.Prelude.{ℕ, ◌-◌, ◌==◌, if◌then◌else◌, Option, Some, None, List, [], ◌++◌, codes, map, slice_get}
use Rattle.std.specs.Option.{option_map, option_and_then}
use Rattle.std.specs.List.{slice_split, join_with_byte}
use Rattle.std.specs.Fmt.{decimal}
use Rattle.std.specs.declared.string.String.{String}
use Rattle.std.specs.declared.alloc.Global.{Global}
use Rattle.lc3_table.specs.Text.{word_text}
use Rattle.lc3_asm.specs.Texts.{Program}
use Rattle.lc3_asm.specs.declared.assembled.Row.{Row}
use Rattle.lab_sources.specs.Labels.{word_at, nearest, label_text}
use Rattle.lab_sources.specs.Rows.{row_at}
use Rattle.lab_sources.specs.Places.{line_or_nothing}
use Rattle.lab_sources.specs.declared.source.Listing.{Listing}
use Rattle.lab_places.specs.Statuses.{StandingSeen, is_word, standing_in}

-- a source: what it is assembled to, and its lines as they are shown
pub record SourceSeen : Type 0 where
  pub program : Program
  pub lines : List (String Global)

-- sources of processes with their lines, where these were given as such
abbrev pub listed : List (Option Listing) → List (Option SourceSeen)
listed listings = map (option_map (λ l. record { program = l.source.assembled; lines = l.lines.items })) listings

-- the nearest label, if there is one
abbrev pub label_part : ℕ → Option (List ℕ × ℕ) → List ℕ
label_part a None = []
label_part a (Some l) = codes ", at " ++ label_text l a

-- a row, where the text of its first word is shown
abbrev pub where_shown : List ℕ → Option ℕ → Option Row → Option Row
where_shown shown None row = None
where_shown shown (Some word) row = if is_word (word_text word) shown then row else None

-- the row whose first word is at an address, where the text of that word is shown
abbrev pub shown_row : Program → StandingSeen → Option Row
shown_row p s = where_shown s.shown (word_at p.image s.address) (row_at p.rows s.address)

-- the line of a row with its number, if there is one
abbrev pub row_part : List (String Global) → Option Row → List ℕ
row_part lines None = []
row_part lines (Some row) = codes ", line " ++ decimal row.line ++ codes ": " ++ line_or_nothing (slice_get lines (row.line - 1))

-- where a process stands in a source: the nearest label, and the line with its number, as far as there are such
unfoldable pub place_text : SourceSeen → StandingSeen → List ℕ
place_text source s =
    label_part s.address (nearest source.program s.address) ++ row_part source.lines (shown_row source.program s)

-- where a process stands, if it was given as a source
abbrev pub place_part : Option SourceSeen → StandingSeen → List ℕ
place_part None s = []
place_part (Some source) s = place_text source s

-- the source of process p, where it was given as one
abbrev pub numbered_of : List (Option SourceSeen) → ℕ → Option SourceSeen
numbered_of sources p = option_and_then (λ s. s) (slice_get sources p)

-- what is told behind a line of where its process stands
abbrev pub behind_line : List (Option SourceSeen) → Option StandingSeen → List ℕ
behind_line sources None = []
behind_line sources (Some s) = place_part (numbered_of sources s.pid) s

-- a line, and behind the status line of a process with a source where it stands
unfoldable pub placed_line : List (Option SourceSeen) → List ℕ → List ℕ
placed_line sources line = line ++ behind_line sources (standing_in line)

-- a text with the places of its status lines
unfoldable pub placed : List (Option SourceSeen) → List ℕ → List ℕ
placed sources text = join_with_byte 10 (map (placed_line sources) (slice_split (λ b. b == 10) text))
