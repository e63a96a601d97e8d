use Rattle.std.proofs.Common.{◌≡◌, take}
use Rattle.lab_conditions.proofs.reading.name_in.Given as goal

-- the bytes so far are taken over
abbrev pub invariant-loop-byte : goal.invariant-loop-byte
invariant-loop-byte l = l.words.items ≡ take l.byte-index l.word
