-- What taking the parts of a frame takes off the bytes that come.
use Rattle.std.specs.Prelude.{◌≡◌, ℕ, ◌<◌, Option, Some, None, List, [], ◌∷◌, length, ⊤, Bool, IfSome, IsTrue}
use Rattle.std.specs.Io.KnownBytes.{Consumes, Keeps, IsAtEnd}
use Rattle.lab_frames.specs.Frames.{over, body_of, frame}
use Rattle.lab_frames.specs.declared.reading.FrameFault.{FrameFault}
use Rattle.lab_frames.specs.declared.reading.FrameFault.TheVariants.{Read, BadHeader, CutShort, NoMemory}

-- a byte, or none at the end, is taken off the known bytes that come
abbrev pub TakesByte : Option (List ℕ) → Option (List ℕ) → Option ℕ → Type 0
TakesByte before after None = IsAtEnd before × Keeps before after
TakesByte before after (Some byte) = Consumes before after (byte ∷ [])

-- header lines that name this length, or none at the end, are taken off the known bytes that come
abbrev pub TakesHeader : Option (List ℕ) → Option (List ℕ) → Option ℕ → Type 0
TakesHeader None after found = ⊤
TakesHeader (Some bytes) None found = ⊥
TakesHeader (Some bytes) (Some rest) None = (frame bytes ≡ over) × (rest ≡ [])
TakesHeader (Some bytes) (Some rest) (Some n) = frame bytes ≡ body_of n rest

-- why no body of n bytes was taken: too few came, or the input failed
abbrev pub BodyStops : ℕ → FrameFault → Option (List ℕ) → Bool → Type 0
BodyStops n Read known failed = IsTrue failed
BodyStops n CutShort known failed = IfSome known (λ bytes. length bytes < n)
BodyStops n NoMemory known failed = ⊤
BodyStops n BadHeader known failed = ⊥
