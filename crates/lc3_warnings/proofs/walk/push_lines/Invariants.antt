use Rattle.std.proofs.Common.{◌≡◌, ◌++◌, [], map, take, drop}
use Rattle.lc3_asm.specs.Texts.{lines}
use Rattle.lc3_asm.specs.Views.{lines_if, seen_line}
use Rattle.lc3_warnings.specs.Flows.{last_flow, next_from}
use Rattle.lc3_warnings.specs.Private.Settings.{seen_setting}
use Rattle.lc3_warnings.specs.Warnings.{lines_told}
use Rattle.lc3_warnings.proofs.walk.push_lines.Given as goal

abbrev pub invariant-loop-i : goal.invariant-loop-i
invariant-loop-i l =
    (lines_if l.rest ≡ drop l.i (lines l.text))
    × (l.previous ≡ last_flow (map seen_line (take l.i l.read)))
    × (l.first ≡ next_from l.i (map seen_line (drop l.i l.read)))
    × (l.found.items ++ lines_told (seen_setting l.setting) (map seen_line (take l.i l.read)) (lines_if l.rest) (map seen_line (drop l.i l.read))
    ≡ l.initial.found.items ++ lines_told (seen_setting l.setting) [] (lines l.text) (map seen_line l.read))
