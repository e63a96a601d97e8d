-- Words, names and messages, as a trace shows them.
use Rattle.std.specs.Prelude.{ℕ, ◌-◌, ◌==◌, ◌&&◌, nat_le, nat_lt, not, Bool, if◌then◌else◌, Option, Some, None, position, List, [], ◌∷◌, ◌++◌, codes, length, take, flat_map}
use Rattle.std.specs.List.{list_any}
use Rattle.std.specs.Fmt.{decimal}
use Rattle.ipc_traps.specs.Names.{window, words_at}
use Rattle.lc3_word.specs.Words.{hexadecimal_text}
use Rattle.lab_texts.specs.Texts.{is_plain}

-- an address, of which 0 stands for none
abbrev pub pointer_text : ℕ → List ℕ
pointer_text a = if a == 0 then codes "NULL" else hexadecimal_text a

-- a word as a signed number
unfoldable pub signed_text : ℕ → List ℕ
signed_text w = if nat_lt w 32768 then decimal w else codes "-" ++ decimal (65536 - w)

-- whether a character stands for itself between quotation marks
unfoldable pub is_quotable : ℕ → Bool
is_quotable c = is_plain c && not (c == 34)

-- a word between quotation marks: its character, or four hexadecimal digits
unfoldable pub character_text : ℕ → List ℕ
character_text w = if is_quotable w then w ∷ [] else codes "\\" ++ hexadecimal_text w

-- words as a string
unfoldable pub string_text : List ℕ → List ℕ
string_text words = codes "\"" ++ flat_map character_text words ++ codes "\""

-- how many words stand before the first zero word of those that are looked at for a name
unfoldable pub name_end : List ℕ → ℕ → Option ℕ
name_end memory at = position (λ w. w == 0) (window memory at)

-- a name of so many words, or its address where no zero word ends it
abbrev pub name_of : List ℕ → ℕ → Option ℕ → List ℕ
name_of memory at None = hexadecimal_text at
name_of memory at (Some len) = string_text (words_at memory at len)

-- the same without quotation marks
abbrev pub bare_name_of : List ℕ → ℕ → Option ℕ → List ℕ
bare_name_of memory at None = hexadecimal_text at
bare_name_of memory at (Some len) = flat_map character_text (words_at memory at len)

-- the name at an address
abbrev pub name_text : List ℕ → ℕ → List ℕ
name_text memory at = name_of memory at (name_end memory at)

-- the same without quotation marks
abbrev pub bare_name_text : List ℕ → ℕ → List ℕ
bare_name_text memory at = bare_name_of memory at (name_end memory at)

-- a word behind a blank
abbrev pub further_word : ℕ → List ℕ
further_word w = codes " " ++ hexadecimal_text w

-- words with a blank between each two
abbrev pub words_text : List ℕ → List ℕ
words_text [] = []
words_text (w ∷ ws) = hexadecimal_text w ++ flat_map further_word ws

-- whether a word is a character that can be printed
unfoldable pub is_printable : ℕ → Bool
is_printable w = nat_le 32 w && nat_le w 126

-- the character of a word, or a point
abbrev pub glyph : ℕ → List ℕ
glyph w = if is_quotable w then w ∷ [] else codes "."

-- a blank and the characters of words, where one of them can be printed
unfoldable pub glyphs_text : List ℕ → List ℕ
glyphs_text ws = if list_any is_printable ws then codes " \"" ++ flat_map glyph ws ++ codes "\"" else []

-- how many words of a message are shown
abbrev pub shown_words : ℕ
shown_words = 16

-- what stands behind the shown words of a longer message
abbrev pub more_text : Bool → List ℕ
more_text more = if more then codes " ..." else []

-- the words of a message that are shown, and whether there are more
unfoldable pub shown_text : List ℕ → Bool → List ℕ
shown_text shown more = codes "[" ++ words_text shown ++ more_text more ++ glyphs_text shown ++ codes "]"

-- the words of a message
abbrev pub message_text : List ℕ → List ℕ
message_text words = shown_text (take shown_words words) (nat_lt shown_words (length words))
