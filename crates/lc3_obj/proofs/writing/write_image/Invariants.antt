use Rattle.std.proofs.Common.{◌≡◌, ◌∷◌, take, false, flat_map}
use Rattle.std.specs.Io.KnownBytes.{Appends}
use Rattle.lc3_obj.specs.Object.{word_bytes}
use Rattle.lc3_obj.proofs.writing.write_image.Given as goal

-- the origin and the words before this one are written, and nothing has failed
abbrev pub invariant-loop-word : goal.invariant-loop-word
invariant-loop-word g l = record {
  written : Appends (g.W.Write.contents l.fn.output.device) (g.W.Write.contents l.output.device) (flat_map word_bytes (l.image.origin ∷ take l.word-index l.image.words));
  same : l.output.failed ≡ false;
}
