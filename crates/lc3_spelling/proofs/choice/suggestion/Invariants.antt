use Rattle.std.proofs.Common.{take}
use Rattle.lc3_spelling.specs.Private.Candidates.{IsBest}
use Rattle.lc3_spelling.proofs.choice.suggestion.Given as goal

-- the best of the names so far
abbrev pub invariant-loop-i : goal.invariant-loop-i
invariant-loop-i l = IsBest (λ name. name.now) l.word l.names (take l.i l.names) l.best
