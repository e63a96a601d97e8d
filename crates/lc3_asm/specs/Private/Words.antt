-- A line at a word.
use Rattle.std.specs.Prelude.{ℕ, Bool, false, List, [], ◌∷◌}
use Rattle.lc3_table.specs.Tokens.{is_word_byte}

-- a line that a word begins
abbrev pub starts_with_word : List ℕ → Bool
starts_with_word [] = false
starts_with_word (c ∷ cs) = is_word_byte c
