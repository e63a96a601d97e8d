-- What bytes begin with: a frame, or why there is none.
use Rattle.std.specs.Prelude.{ℕ, ◌+◌, ◌-◌, ◌==◌, nat_lt, if◌then◌else◌, Option, Some, None, List, [], ◌∷◌, ◌++◌, length, take, drop, slice_index}
use Rattle.lab_frames.specs.Headers.{field_of}
use Rattle.lab_frames.specs.declared.header.Field.{Field}
use Rattle.lab_frames.specs.declared.header.Field.TheVariants.{Length, Other, Bad}

-- the most bytes of header lines, with their line feeds and the empty line
abbrev pub header_limit : ℕ
header_limit = 4_096

-- the most bytes of a body that is kept
abbrev pub body_limit : ℕ
body_limit = 32_000_000

-- what bytes begin with
pub data Begun : Type 0 where
  -- there are none
  over : Begun
  -- they end inside a frame
  cut : Begun
  -- its header lines are none, or name no length or two
  bad : Begun
  -- a body, and the bytes after it
  body : List ℕ → List ℕ → Begun
  -- a body that is too large, and the bytes after it
  large : List ℕ → Begun

-- a line without the carriage return at its end
abbrev pub without_return : List ℕ → List ℕ
without_return line = if slice_index line (length line - 1) == 13 then take (length line - 1) line else line

-- the length that is known after a line: one line names it
abbrev pub known_after : Option ℕ → Field → Option (Option ℕ)
known_after known Other = Some known
known_after None (Length n) = Some (Some n)
known_after (Some m) (Length n) = None
known_after known Bad = None

-- a body of n bytes that still come
abbrev pub body_of : ℕ → List ℕ → Begun
body_of n bytes =
    if nat_lt (length bytes) n then cut else (if nat_lt body_limit n then large (drop n bytes) else body (take n bytes) (drop n bytes))

-- what comes after the empty line
abbrev pub after_header : Option ℕ → List ℕ → Begun
after_header None bytes = bad
after_header (Some n) bytes = body_of n bytes

-- what comes where a length is known or none is, unless the header lines are none
abbrev pub if_known : Option (Option ℕ) → (Option ℕ → Begun) → Begun
if_known None next = bad
if_known (Some known) next = next known

-- what bytes begin with of which so many may belong to header lines, after the front of a line, where the lines before named this length
unfoldable pub begun : ℕ → List ℕ → Option ℕ → List ℕ → Begun
begun room line known [] = if room == header_limit then over else (if room == 0 then bad else cut)
begun room line known (b ∷ bs) =
    if room == 0 then bad else
    (if b == 10
    then (if length (without_return line) == 0 then after_header known bs else if_known (known_after known (field_of (without_return line))) (λ k. begun (room - 1) [] k bs))
    else begun (room - 1) (line ++ b ∷ []) known bs)

-- what bytes begin with
abbrev pub frame : List ℕ → Begun
frame bytes = begun header_limit [] None bytes
