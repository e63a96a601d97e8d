-- What reading takes off the bytes that come.
use Rattle.std.specs.Prelude.{◌≡◌, ℕ, ◌<◌, Option, Some, None, List, [], ◌∷◌, length, ⊤, Bool, IfSome, IsTrue}
use Rattle.std.specs.Io.KnownBytes.{Consumes, Keeps, IsAtEnd}
use Rattle.lab_debug.specs.declared.script.SessionFault.{SessionFault}
use Rattle.lab_debug.specs.declared.script.SessionFault.TheVariants.{Read, LineTooLong, NoMemory}
use Rattle.lab_debug.specs.Lines.{line_limit, lines}

-- a line, or none at the end, is taken off the known bytes that come
abbrev pub TakesLine : Option (List ℕ) → Option (List ℕ) → Option (List ℕ) → Type 0
TakesLine None after line = ⊤
TakesLine (Some bytes) None line = ⊥
TakesLine (Some bytes) (Some rest) None = lines bytes ≡ []
TakesLine (Some bytes) (Some rest) (Some line) = lines bytes ≡ line ∷ lines rest

-- there is a first line, and it has more than n bytes
pub record BeginsLonger (n : ℕ) (ls : List (List ℕ)) : Type 0 where
  pub first : List ℕ
  pub more : List (List ℕ)
  pub cut : ls ≡ first ∷ more
  pub long : n < length first

-- a byte, or none at the end, is taken off the known bytes that come
abbrev pub TakesByte : Option (List ℕ) → Option (List ℕ) → Option ℕ → Type 0
TakesByte before after None = IsAtEnd before × Keeps before after
TakesByte before after (Some byte) = Consumes before after (byte ∷ [])

-- why no line was read: the known bytes that came, and whether the input failed
abbrev pub Stops : SessionFault → Option (List ℕ) → Bool → Type 0
Stops LineTooLong known read = IfSome known (λ bytes. BeginsLonger line_limit (lines bytes))
Stops NoMemory known read = ⊤
Stops fault known read = (fault ≡ Read) × IsTrue read
