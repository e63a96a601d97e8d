use Rattle.std.proofs.Common.{◌≡◌, ◌*◌, take, drop, length, flat_map}
use Rattle.lc3_obj.specs.Object.{word_bytes}
use Rattle.lc3_obj.proofs.reading.read_image.Given as goal

-- the words so far are those of the bytes so far
abbrev pub invariant-loop-i : goal.invariant-loop-i
invariant-loop-i l = record {
  read : flat_map word_bytes l.words.items ≡ take (2 * l.i) (drop 2 l.bytes);
  count : length l.words.items ≡ l.i;
}
