-- How an assembled text is listed.
use Rattle.std.specs.Prelude.{ℕ, List, [], ◌∷◌, ◌++◌, take, drop, codes}
use Rattle.std.specs.Fmt.{decimal}
use Rattle.lc3_word.specs.Words.{word_sum, hexadecimal_text}
use Rattle.lc3_table.specs.Text.{word_text}
use Rattle.lc3_asm.specs.Texts.{Program}
use Rattle.lc3_asm.specs.declared.assembled.Row.{Row}

-- an address, a word, its source line and its text
unfoldable pub word_line : ℕ → ℕ → ℕ → List ℕ
word_line address w line = hexadecimal_text address ++ codes " " ++ hexadecimal_text w ++ codes " " ++ decimal line ++ codes " " ++ word_text w ++ codes "\n"

-- the words of one source line, from an address on
abbrev pub words_text : ℕ → ℕ → List ℕ → List ℕ
words_text address line [] = []
words_text address line (w ∷ ws) = word_line address w line ++ words_text (word_sum address 1) line ws

-- the words of an image, row by row
abbrev pub rows_text : List Row → List ℕ → List ℕ
rows_text [] ws = []
rows_text (r ∷ rs) ws = words_text r.address r.line (take r.count ws) ++ rows_text rs (drop r.count ws)

-- a label and its value
unfoldable pub symbol_line : List ℕ → ℕ → List ℕ
symbol_line name address = name ++ codes " " ++ hexadecimal_text address ++ codes "\n"

-- the lines of the labels
abbrev pub symbols_text : List (List ℕ × ℕ) → List ℕ
symbols_text [] = []
symbols_text (e ∷ es) = symbol_line e.0 e.1 ++ symbols_text es

-- the whole listing: the lines of the rows, and then those of the labels
abbrev pub listing_text : Program → List ℕ
listing_text p = rows_text p.rows p.image.words ++ symbols_text p.symbols
