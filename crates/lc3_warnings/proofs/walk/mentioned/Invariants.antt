use Rattle.std.proofs.Common.{◌≡◌, ℕ, List, map, take}
use Rattle.std.specs.List.{list_any}
use Rattle.lc3_asm.specs.Texts.{lines}
use Rattle.lc3_warnings.specs.Private.Names.{is_among}
use Rattle.lc3_warnings.specs.Labels.{mentions, faulty_line}
use Rattle.lc3_warnings.proofs.walk.mentioned.Given as goal

abbrev pub invariant-loop-fault : goal.invariant-loop-fault
invariant-loop-fault l = (name : List ℕ) → is_among l.names name ≡ list_any (mentions name) (map (faulty_line (lines l.text)) (take l.fault-index l.faults))
