-- What stands at an address of a process: its nearest label, and the line of its source or the text of its word.
use Rattle.std.specs.Prelude.{ℕ, ◌-◌, nat_lt, if◌then◌else◌, Option, Some, None, List, [], ◌++◌, codes, slice_get, string_bytes}
use Rattle.std.specs.Fmt.{decimal}
use Rattle.std.specs.declared.string.String.{String}
use Rattle.lc3_word.specs.Segment.{first_device}
use Rattle.lc3_table.specs.Text.{word_text}
use Rattle.lc3_asm.specs.declared.assembled.Row.{Row}
use Rattle.lab_sources.specs.Labels.{nearest, label_text}
use Rattle.lab_sources.specs.Rows.{held_row}
use Rattle.lab_sources.specs.declared.source.Listing.{Listing}

-- a label of an address, or a dash
abbrev pub near_text : ℕ → Option (List ℕ × ℕ) → List ℕ
near_text a None = codes "-"
near_text a (Some l) = label_text l a

-- the nearest label of an address of a process; without a source there is none
abbrev pub label_at : ℕ → Option Listing → List ℕ
label_at a None = codes "-"
label_at a (Some l) = near_text a (nearest l.source.assembled a)

-- the text of a word, or a dash in the device register page
abbrev pub word_shown : ℕ → ℕ → List ℕ
word_shown a word = if nat_lt a first_device then word_text word else codes "-"

-- a line as it is shown, where it is there
abbrev pub line_or_nothing : {Z : Type 0} → Option (String Z) → List ℕ
line_or_nothing None = []
line_or_nothing (Some line) = string_bytes line

-- the line of a row with its number, or the text of the word
abbrev pub row_text : Listing → ℕ → ℕ → Option Row → List ℕ
row_text l a word None = word_shown a word
row_text l a word (Some row) = codes "line " ++ decimal row.line ++ codes ": " ++ line_or_nothing (slice_get l.lines.items (row.line - 1))

-- the line of the source at an address with this word, or the text of the word
abbrev pub content_text : ℕ → ℕ → Option Listing → List ℕ
content_text a word None = word_shown a word
content_text a word (Some l) = row_text l a word (held_row l.source.assembled a word)
