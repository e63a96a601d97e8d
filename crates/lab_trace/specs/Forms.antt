-- How the lines of a trace are written, and the labels and lines of sources at their ends.
use Rattle.std.specs.Prelude.{ℕ, ◌+◌, ◌-◌, max, ◌||◌, is_some, Bool, true, false, Option, Some, None, List, [], ◌++◌, codes, length, slice_get}
use Rattle.std.specs.Option.{option_and_then}
use Rattle.std.specs.Fmt.{decimal}
use Rattle.lc3_word.specs.Words.{hexadecimal_text}
use Rattle.lab_sources.specs.Labels.{nearest, label_text}
use Rattle.lab_sources.specs.Rows.{held_row}
use Rattle.lab_places.specs.Placed.{SourceSeen, numbered_of}
use Rattle.lc3_asm.specs.declared.assembled.Row.{Row}
use Rattle.lab_trace.specs.Columns.{at_left, at_right}

-- the widths of the columns whose width a trace chooses, the number of a step and the process, and of each process its
-- source, where it was given as one
pub record Form : Type 0 where
  pub step : ℕ
  pub process : ℕ
  pub sources : List (Option SourceSeen)

-- the form for a schedule of so many steps of so many processes with these sources
abbrev pub form_for : ℕ → ℕ → List (Option SourceSeen) → Form
form_for total count sources =
    record { step = max 3 (length (decimal total)); process = 1 + length (decimal (count - 1)); sources = sources }

-- process p by its number
abbrev pub process_text : ℕ → List ℕ
process_text p = codes "P" ++ decimal p

-- a process and a blank, in the width of the column
unfoldable pub process_column : ℕ → ℕ → List ℕ
process_column width p = at_left width (process_text p) ++ codes " "

-- counted steps and a blank, in the width of the column
unfoldable pub local_column : ℕ → List ℕ
local_column count = at_right 5 (codes "+" ++ decimal count) ++ codes " "

-- the columns before what happened: step, process, address, and the counted steps of the process since its last line
unfoldable pub head : Form → List ℕ → ℕ → ℕ → ℕ → List ℕ
head v step p address count =
    at_right v.step step ++ codes " " ++ process_column v.process p ++ hexadecimal_text address ++ codes " " ++ local_column count

-- what stands before a note
abbrev pub separator : Bool → List ℕ
separator true = codes ", "
separator false = codes " ; "

-- the nearest label of an address in a source
abbrev pub label_in : ℕ → Option SourceSeen → Option (List ℕ × ℕ)
label_in address None = None
label_in address (Some s) = nearest s.program address

-- the nearest label of an address in the source of process p
abbrev pub label_of : List (Option SourceSeen) → ℕ → ℕ → Option (List ℕ × ℕ)
label_of sources p address = label_in address (numbered_of sources p)

-- the nearest label of an address, where there is one; `begun` says whether a note stands before it
abbrev pub label_note : Bool → ℕ → Option (List ℕ × ℕ) → List ℕ
label_note begun address None = []
label_note begun address (Some l) = separator begun ++ codes "at " ++ label_text l address

-- the line of a source at an address, where its first word is there and memory holds this word
abbrev pub row_in : ℕ → ℕ → Option SourceSeen → Option Row
row_in address word None = None
row_in address word (Some s) = held_row s.program address word

-- the same in the source of process p
abbrev pub row_of : List (Option SourceSeen) → ℕ → ℕ → ℕ → Option Row
row_of sources p address word = row_in address word (numbered_of sources p)

-- the line of a source, where there is one; `begun` says whether a note stands before it
abbrev pub row_note : Bool → Option Row → List ℕ
row_note begun None = []
row_note begun (Some row) = separator begun ++ codes "line " ++ decimal row.line

-- the end of a line of process p at an address with this word: the nearest label and the line of its source there, where
-- there are such; `begun` says whether a note stands before them
unfoldable pub line_end : Form → Bool → ℕ → ℕ → ℕ → List ℕ
line_end v begun p address word =
    label_note begun address (label_of v.sources p address)
    ++ row_note (begun || is_some (label_of v.sources p address)) (row_of v.sources p address word) ++ codes "\n"
