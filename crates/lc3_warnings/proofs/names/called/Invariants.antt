use Rattle.std.proofs.Common.{◌≡◌, ℕ, List, map, take}
use Rattle.lc3_asm.specs.Views.{seen_line}
use Rattle.lc3_warnings.specs.Private.Names.{is_among}
use Rattle.lc3_warnings.specs.Labels.{called}
use Rattle.lc3_warnings.proofs.names.called.Given as goal

abbrev pub invariant-loop-line : goal.invariant-loop-line
invariant-loop-line l = (name : List ℕ) → is_among l.names name ≡ called (map seen_line (take l.line-index l.lines)) name
