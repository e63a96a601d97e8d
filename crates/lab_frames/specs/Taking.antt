-- What taking a frame takes off the bytes that come.
use Rattle.std.specs.Prelude.{◌≡◌, ℕ, Option, Some, None, List, ⊤, Bool, IfSome, IsTrue}
use Rattle.lab_frames.specs.Frames.{Begun, over, cut, bad, body, large, frame}
use Rattle.lab_frames.specs.declared.reading.FrameFault.{FrameFault}
use Rattle.lab_frames.specs.declared.reading.FrameFault.TheVariants.{Read, BadHeader, CutShort, NoMemory}
use Rattle.lab_frames.specs.declared.reading.Frame.{Frame}
use Rattle.lab_frames.specs.declared.reading.Frame.TheVariants.{End, Body, TooLarge}

-- as the bytes begin with it, and with what comes behind
abbrev pub begun_with : Frame → List ℕ → Begun
begun_with End rest = over
begun_with (Body b) rest = body b.items rest
begun_with TooLarge rest = large rest

-- a frame is taken off the known bytes that come
abbrev pub TakesFrame : Option (List ℕ) → Option (List ℕ) → Frame → Type 0
TakesFrame None after found = ⊤
TakesFrame (Some bytes) None found = ⊥
TakesFrame (Some bytes) (Some rest) found = frame bytes ≡ begun_with found rest

-- why no frame was taken: the known bytes that came, and whether the input failed
abbrev pub Stops : FrameFault → Option (List ℕ) → Bool → Type 0
Stops Read known failed = IsTrue failed
Stops BadHeader known failed = IfSome known (λ bytes. frame bytes ≡ bad)
Stops CutShort known failed = IfSome known (λ bytes. frame bytes ≡ cut)
Stops NoMemory known failed = ⊤
