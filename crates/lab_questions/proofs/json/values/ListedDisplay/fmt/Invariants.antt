use Rattle.std.proofs.Common.{take}
use Rattle.std.specs.Fmt.{HasWritten, IsPlainFormatter}
use Rattle.lab_questions.specs.Values.{values_json}
use Rattle.lab_questions.proofs.json.values.ListedDisplay.fmt.Given as goal

-- the values so far are written
abbrev pub invariant-loop-place : goal.invariant-loop-place
invariant-loop-place g l =
    IsPlainFormatter l.initial.f
    → HasWritten g.W.Write.write_str_gives l.initial.f (values_json (take l.place (g.V.Values.values l.self.0))) l.f
