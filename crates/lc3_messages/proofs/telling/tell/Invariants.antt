use Rattle.std.proofs.Common.{◌≡◌, map, take}
use Rattle.lc3_messages.specs.Telling.{finding_told}
use Rattle.lc3_messages.proofs.telling.tell.Given as goal

-- the findings so far are told
abbrev pub invariant-loop-finding : goal.invariant-loop-finding
invariant-loop-finding l = map finding_told l.told.items ≡ take l.finding-index l.findings
