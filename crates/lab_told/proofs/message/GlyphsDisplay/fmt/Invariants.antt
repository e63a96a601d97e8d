use Rattle.std.proofs.Common.{flat_map, take}
use Rattle.std.specs.Fmt.{HasWritten, IsPlainFormatter}
use Rattle.lab_told.specs.Words.{glyph}
use Rattle.lab_told.proofs.message.GlyphsDisplay.fmt.Given as goal

-- the characters so far are written
abbrev pub invariant-loop-word : goal.invariant-loop-word
invariant-loop-word g l =
    IsPlainFormatter l.initial.f → HasWritten g.W.Write.write_str_gives l.initial.f (flat_map glyph (take l.word-index l.word-items)) l.f
