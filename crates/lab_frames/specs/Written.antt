-- A frame as it is written.
use Rattle.std.specs.Prelude.{ℕ, List, [], ◌∷◌, ◌++◌, length, codes}
use Rattle.std.specs.Fmt.{decimal}

-- a message behind its length
unfoldable pub frame_text : List ℕ → List ℕ
frame_text message = codes "Content-Length: " ++ decimal (length message) ++ 13 ∷ 10 ∷ 13 ∷ 10 ∷ [] ++ message
