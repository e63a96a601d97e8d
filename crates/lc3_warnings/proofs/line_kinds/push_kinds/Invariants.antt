use Rattle.std.proofs.Common.{◌≡◌, ◌++◌, take}
use Rattle.std.specs.List.{flat_map}
use Rattle.lc3_warnings.specs.Warnings.{told}
use Rattle.lc3_warnings.proofs.line_kinds.push_kinds.Given as goal

-- the kinds so far are told
abbrev pub invariant-loop-kind : goal.invariant-loop-kind
invariant-loop-kind l = l.found.items ≡ l.initial.found.items ++ flat_map (told l.line) (take l.kind-index l.kinds)
