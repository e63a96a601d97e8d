use Rattle.std.proofs.Common.{◌≡◌, take}
use Rattle.lab_questions.proofs.calling.name_in.Given as goal

-- the bytes so far are taken over
abbrev pub invariant-loop-byte : goal.invariant-loop-byte
invariant-loop-byte l = l.characters.items ≡ take l.byte-index l.word
