-- Words between blanks.
use Rattle.std.specs.Prelude.{ℕ, Bool, not, ◌==◌, nat_eq, List, length, filter, codes}
use Rattle.std.specs.List.{list_any, slice_split}

-- the bytes between the words of a text: blank, tab, carriage return and line feed
abbrev pub white_space : List ℕ
white_space = codes " \t\r\n"

-- whether a byte is one of these
abbrev pub is_among : List ℕ → ℕ → Bool
is_among bytes c = list_any (λ b. nat_eq b c) bytes

-- whether a piece between blanks has a byte
abbrev pub is_word : List ℕ → Bool
is_word piece = not (length piece == 0)

-- the words of a text, where these bytes are blanks: what stands between the blanks
unfoldable pub words_between : List ℕ → List ℕ → List (List ℕ)
words_between blanks text = filter is_word (slice_split (is_among blanks) text)
