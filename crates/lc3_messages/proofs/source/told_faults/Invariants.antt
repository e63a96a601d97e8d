use Rattle.std.proofs.Common.{◌≡◌, [], take}
use Rattle.lc3_messages.specs.Told.{AreFrom}
use Rattle.lc3_messages.proofs.source.told_faults.Given as goal

-- the faults so far are told but for some about a label, and at least one of them is
abbrev pub invariant-loop-fault : goal.invariant-loop-fault
invariant-loop-fault l = AreFrom (take l.fault-index l.faults) l.told.items × (l.told.items ≡ [] → take l.fault-index l.faults ≡ [])
