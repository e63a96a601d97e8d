use Rattle.std.proofs.Common.{map, string_bytes, take}
use Rattle.lc3_messages.specs.Telling.{finding_told}
use Rattle.lc3_messages.specs.Written.{AreMessages}
use Rattle.lc3_messages.proofs.report.messages.Given as goal

-- the messages so far are written
abbrev pub invariant-loop-one : goal.invariant-loop-one
invariant-loop-one l = AreMessages l.file (map finding_told (take l.one-index l.told)) (string_bytes l.text)
