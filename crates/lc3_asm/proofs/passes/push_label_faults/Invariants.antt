use Rattle.std.proofs.Common.{◌≡◌, ◌++◌, map, take}
use Rattle.std.specs.List.{flat_map}
use Rattle.lc3_asm.specs.Faults.{label_fault}
use Rattle.lc3_asm.specs.Texts.{with_earlier}
use Rattle.lc3_asm.specs.Views.{seen_line}
use Rattle.lc3_asm.proofs.passes.push_label_faults.Given as goal

abbrev pub invariant-loop-i : goal.invariant-loop-i
invariant-loop-i l = l.faults.items ≡ l.initial.faults.items ++ flat_map (label_fault l.reader) (with_earlier (map seen_line (take l.i l.lines)))
