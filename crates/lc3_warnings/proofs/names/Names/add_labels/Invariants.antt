use Rattle.std.proofs.Common.{◌≡◌, ◌||◌, ℕ, List, map, take}
use Rattle.std.specs.List.{list_any}
use Rattle.lc3_asm.specs.Views.{seen_operand}
use Rattle.lc3_warnings.specs.Private.Names.{is_among}
use Rattle.lc3_warnings.specs.Labels.{is_label}
use Rattle.lc3_warnings.proofs.names.Names.add_labels.Given as goal

abbrev pub invariant-loop-operand : goal.invariant-loop-operand
invariant-loop-operand l = (name : List ℕ) → is_among l.self name ≡ (is_among l.initial.self name || list_any (is_label name) (map seen_operand (take l.operand-index l.operands)))
