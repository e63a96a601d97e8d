-- Bytes, as a trace shows them.
use Rattle.std.specs.Prelude.{ℕ, if◌then◌else◌, List, [], ◌∷◌, ◌++◌, codes, flat_map}
use Rattle.lab_texts.specs.Texts.{escape_text}
use Rattle.lab_told.specs.Words.{is_quotable}

-- a byte between quotation marks: itself, or two hexadecimal digits
unfoldable pub byte_text : ℕ → List ℕ
byte_text b = if is_quotable b then b ∷ [] else escape_text b

-- bytes as a string
unfoldable pub bytes_text : List ℕ → List ℕ
bytes_text bytes = codes "\"" ++ flat_map byte_text bytes ++ codes "\""
