-- A session: one message after another, each answered before the next is read.
use Rattle.std.specs.Prelude.{◌≡◌, ◌⊎◌, ◌≤◌, ℕ, ◌+◌, Bool, true, false, Option, Some, None, Result, Ok, Err, List, [], ◌∷◌, ◌++◌, length, ⊤, IsUtf8}
use Rattle.std.specs.Io.KnownBytes.{Appends}
use Rattle.serde_json.specs.Data.{Data, null, depth}
use Rattle.serde_json.specs.Read.{read, max_depth}
use Rattle.serde_json.specs.Written.{has_float, compact_text}
use Rattle.lab_frames.specs.Frames.{Begun, over, cut, bad, body, large, frame}
use Rattle.lab_frames.specs.Written.{frame_text}
use Rattle.lab_server.specs.Messages.{message_of}
use Rattle.lab_server.specs.Replies.{IsError}
use Rattle.lab_server.specs.Sessions.{Session, Sends, Leads, GivesUp, ends, no_json, no_request}
use Rattle.lab_server.specs.declared.session.Stage.{Stage}
use Rattle.lab_server.specs.declared.session.Stage.TheVariants.{Fresh, Ready, Over}
use Rattle.lab_server.specs.declared.serving.ServerFault.{ServerFault}
use Rattle.lab_server.specs.declared.serving.ServerFault.TheVariants.{Write, NoMemory, BadHeader, CutShort, TooManyMessages}

-- what is sent for a message, and the session after it
pub record Turn : Type 0 where
  pub sent : Option Data
  pub after : Session

-- a value that was read leads to this, and doesn't end the session; if memory is refused, the session is as before
abbrev pub TakesValue : Data → Session → Turn → Type 0
TakesValue d s t =
    (ends (message_of d) ≡ false) × (Leads (message_of d) s t.sent t.after ⊎ (GivesUp (message_of d) t.sent × (t.after ≡ s)))

-- a body that is no JSON leads to this
abbrev pub TakesNoJson : List ℕ → Session → Turn → Type 0
TakesNoJson b s t = (IsUtf8 b → read b ≡ None) × Sends (IsError null no_json) t.sent × (t.after ≡ s)

-- a body that is JSON leads to this
abbrev pub TakesJson : List ℕ → Session → Turn → Type 0
TakesJson b s t = (d : Data) × IsUtf8 b × (read b ≡ Some d) × TakesValue d s t

-- what bytes begin with leads to this, and these bytes come after it
abbrev pub Takes : Begun → Session → Turn → List ℕ → Type 0
Takes over s t rest = ⊥
Takes cut s t rest = ⊥
Takes bad s t rest = ⊥
Takes (body b more) s t rest = (TakesNoJson b s t ⊎ TakesJson b s t) × (rest ≡ more)
Takes (large more) s t rest = Sends (IsError null no_request) t.sent × (t.after ≡ s) × (rest ≡ more)

-- messages lead from a session with these bytes to a session with those
abbrev pub Reaches : Session → List ℕ → List Turn → Session → List ℕ → Type 0
Reaches s bytes [] after rest = (after ≡ s) × (rest ≡ bytes)
Reaches s bytes (t ∷ ts) after rest = (more : List ℕ) × Takes (frame bytes) s t more × Reaches t.after more ts after rest

-- a text that a value is written as
abbrev pub IsTextOf : Data → List ℕ → Type 0
IsTextOf d text = (has_float d ≡ false → text ≡ compact_text d) × (depth d ≤ max_depth → read text ≡ Some d)

-- what is sent, as a frame
abbrev pub IsFrameOf : Option Data → List ℕ → Type 0
IsFrameOf None bytes = bytes ≡ []
IsFrameOf (Some d) bytes = (text : List ℕ) × IsTextOf d text × (bytes ≡ frame_text text)

-- what is sent, one frame after another
abbrev pub AreFramesOf : List Turn → List ℕ → Type 0
AreFramesOf [] bytes = bytes ≡ []
AreFramesOf (t ∷ ts) bytes = (front : List ℕ) × (more : List ℕ) × IsFrameOf t.sent front × AreFramesOf ts more × (bytes ≡ front ++ more)

-- a body that ends the session
abbrev pub IsExit : Option Data → Type 0
IsExit None = ⊥
IsExit (Some d) = ends (message_of d) ≡ true

-- the session ends with what these bytes begin with
abbrev pub EndsWith : Begun → Type 0
EndsWith over = ⊤
EndsWith (body b more) = IsUtf8 b × IsExit (read b)
EndsWith other = ⊥

abbrev pub is_over : Stage → Bool
is_over Fresh = false
is_over Ready = false
is_over Over = true

-- why a session breaks off at the message of this number, by the bytes that still come
abbrev pub Breaks : ServerFault → ℕ → List ℕ → Type 0
Breaks (BadHeader n) number rest = (frame rest ≡ bad) × (n ≡ number)
Breaks (CutShort n) number rest = (frame rest ≡ cut) × (n ≡ number)
Breaks TooManyMessages number rest = number ≡ 1_000_000_001
Breaks other number rest = ⊤

-- how a session ends, by the session after its last turn, how many turns there were, and the bytes that still come
abbrev pub Finishes : Result Bool ServerFault → Session → ℕ → List ℕ → Type 0
Finishes (Ok shut) s count rest = EndsWith (frame rest) × (shut ≡ is_over s.stage)
Finishes (Err e) s count rest = Breaks e (count + 1) rest

-- whether all that is sent for the turns was written: not where the output fails or memory is refused in the last one
abbrev pub is_written : Result Bool ServerFault → Bool
is_written (Err Write) = false
is_written (Err NoMemory) = false
is_written other = true

-- a session over these bytes that ends so: its turns, and what was written for them
pub record Serves (start : Session) (bytes : List ℕ) (old new : Option (List ℕ)) (result : Result Bool ServerFault) : Type 0 where
  pub turns : List Turn
  pub last : Session
  pub rest : List ℕ
  pub reached : Reaches start bytes turns last rest
  pub text : List ℕ
  pub sent : AreFramesOf turns text
  pub written : is_written result ≡ true → Appends old new text
  pub end : Finishes result last (length turns) rest
