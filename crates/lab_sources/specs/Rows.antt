-- Lines of an assembled text by their addresses.
use Rattle.std.specs.Prelude.{ℕ, ◌==◌, if◌then◌else◌, Option, Some, None, find, List}
use Rattle.lc3_asm.specs.Texts.{Program}
use Rattle.lc3_asm.specs.declared.assembled.Row.{Row}
use Rattle.lab_sources.specs.Labels.{word_at}

-- the line whose first word is at an address
abbrev pub row_at : List Row → ℕ → Option Row
row_at rows a = find (λ r. r.address == a) rows

-- a row where memory holds the word of the image
abbrev pub where_held : ℕ → Option ℕ → Option Row → Option Row
where_held word None row = None
where_held word (Some w) row = if w == word then row else None

-- the line whose first word is at an address, where memory holds this word there and it is the one of the image
abbrev pub held_row : Program → ℕ → ℕ → Option Row
held_row p a word = where_held word (word_at p.image a) (row_at p.rows a)
