use Rattle.std.proofs.Common.{flat_map, take}
use Rattle.std.specs.Fmt.{HasWritten, IsPlainFormatter}
use Rattle.lab_questions.specs.Values.{character_json}
use Rattle.lab_questions.proofs.json.values.CharactersDisplay.fmt.Given as goal

-- the characters so far are written
abbrev pub invariant-loop-number : goal.invariant-loop-number
invariant-loop-number g l =
    IsPlainFormatter l.initial.f
    → HasWritten g.W.Write.write_str_gives l.initial.f (flat_map character_json (take l.number-index l.number-items)) l.f
