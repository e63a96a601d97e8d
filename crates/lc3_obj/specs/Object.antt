-- The layout of an object file: the origin and then the words of an image, each with its high byte first.
use Rattle.std.specs.Prelude.{◌≢◌, ℕ, ◌+◌, ◌-◌, ◌*◌, ◌/◌, ◌%◌, List, [], ◌∷◌, length, flat_map, slice_index}
use Rattle.lc3_word.specs.Segment.{Segment, IsBelowDevices}

-- a word as two bytes, the high one first
abbrev pub word_bytes : ℕ → List ℕ
word_bytes w = w / 256 ∷ w % 256 ∷ []

-- an object file holds the origin and then each word of the image
abbrev pub object_bytes : Segment → List ℕ
object_bytes image = flat_map word_bytes (image.origin ∷ image.words)

-- the origin that an object file of at least two bytes begins with
abbrev pub origin_of : List ℕ → ℕ
origin_of bytes = 256 * slice_index bytes 0 + slice_index bytes 1

-- how many words stand after the origin
abbrev pub word_count : List ℕ → ℕ
word_count bytes = length bytes / 2 - 1

-- the bytes aren't the object file of any image
abbrev pub IsNoObject : List ℕ → Type 0
IsNoObject bytes = (image : Segment) → IsBelowDevices image → object_bytes image ≢ bytes
