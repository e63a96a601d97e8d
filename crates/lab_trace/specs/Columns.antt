-- Texts in the width of a column.
use Rattle.std.specs.Prelude.{ℕ, ◌-◌, List, ◌++◌, length, replicate}

-- so many blanks
abbrev pub blanks : ℕ → List ℕ
blanks n = replicate n 32

-- a text with blanks before it up to a width
unfoldable pub at_right : ℕ → List ℕ → List ℕ
at_right width text = blanks (width - length text) ++ text

-- a text with blanks behind it up to a width
unfoldable pub at_left : ℕ → List ℕ → List ℕ
at_left width text = text ++ blanks (width - length text)
