-- One turn of a session, where the bytes that come and those that are written may be known or not.
use Rattle.std.specs.Prelude.{◌≡◌, ℕ, Bool, true, false, Option, Some, None, Err, List, [], ⊤, IfSome}
use Rattle.std.specs.Io.KnownBytes.{Appends}
use Rattle.serde_json.specs.Data.{Data}
use Rattle.lab_frames.specs.Frames.{frame}
use Rattle.lab_server.specs.Sessions.{Session}
use Rattle.lab_server.specs.Turns.{Turn, Takes, IsFrameOf, EndsWith, Breaks, is_written}
use Rattle.lab_server.specs.declared.serving.ServerFault.{ServerFault}

-- what the known bytes that come begin with leads to this, and these come after it
abbrev pub TakesKnown : Option (List ℕ) → Session → Turn → Option (List ℕ) → Type 0
TakesKnown None s t next = ⊤
TakesKnown (Some bytes) s t None = ⊥
TakesKnown (Some bytes) s t (Some rest) = Takes (frame bytes) s t rest

-- a turn, of which what is sent is written, or the end: whether the session goes on, and the session after it
abbrev pub TurnsTo : Bool → Session → Option (List ℕ) → Option (List ℕ) → Option (List ℕ) → Option (List ℕ) → Session → Type 0
TurnsTo true s known next old new after =
    (sent : Option Data) × (front : List ℕ) × IsFrameOf sent front × Appends old new front × TakesKnown known s (record { sent = sent; after = after }) next
TurnsTo false s known next old new after = Appends old new [] × (after ≡ s) × IfSome known (λ bytes. EndsWith (frame bytes))

-- the session breaks off at the message of this number, for which nothing is written, unless that is what failed
abbrev pub BreaksOff : ServerFault → ℕ → Option (List ℕ) → Option (List ℕ) → Option (List ℕ) → Type 0
BreaksOff e number known old new = IfSome known (Breaks e number) × (is_written (Err e) ≡ true → Appends old new [])
