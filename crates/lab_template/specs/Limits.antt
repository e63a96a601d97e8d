-- The limits of a page.
use Rattle.std.specs.Prelude.{ℕ}

-- the most steps of a schedule of which a page has the counted ones too
abbrev pub most_whole : ℕ
most_whole = 20_000

-- the most bytes of data in a page
abbrev pub most_bytes : ℕ
most_bytes = 32_000_000

-- the most ends of which a page has the runs
abbrev pub most_ends : ℕ
most_ends = 64

-- the most bytes of the texts of these runs
abbrev pub most_end_bytes : ℕ
most_end_bytes = 16_000_000
