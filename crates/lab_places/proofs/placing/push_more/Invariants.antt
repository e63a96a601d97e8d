use Rattle.std.proofs.Common.{◌≡◌, ◌++◌, drop, map}
use Rattle.lab_places.specs.Private.Standings.{more_lines}
use Rattle.lab_places.proofs.placing.push_more.Given as goal

-- the lines so far and those that are left are all of them
abbrev pub invariant-loop-line : goal.invariant-loop-line
invariant-loop-line l =
    l.bytes.items ++ more_lines l.sources (map (λ line. line.now) (drop l.line-index l.lines))
    ≡ l.initial.bytes.items ++ more_lines l.sources (map (λ line. line.now) l.lines)
