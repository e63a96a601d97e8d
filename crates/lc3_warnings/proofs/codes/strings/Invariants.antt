use Rattle.std.proofs.Common.{◌≡◌, ℕ, List, map, drop}
use Rattle.lc3_asm.specs.Views.{seen_line}
use Rattle.lc3_warnings.specs.Private.Names.{is_among}
use Rattle.lc3_warnings.specs.Strings.{begin_string, strings}
use Rattle.lc3_warnings.proofs.codes.strings.Given as goal

-- from line i on all is done
abbrev pub invariant-loop-i : goal.invariant-loop-i
invariant-loop-i l =
    (l.is_string ≡ begin_string (map seen_line (drop l.i l.lines)))
    × ((name : List ℕ) → is_among l.labels name ≡ strings (map seen_line (drop l.i l.lines)) name)
