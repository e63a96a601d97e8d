use Rattle.std.proofs.Common.{◌≡◌, find, drop}
use Rattle.lc3_table.specs.Words.{same_name}
use Rattle.lab_sources.proofs.source.address_of.Given as goal

-- none of the labels so far is the one that is looked for
abbrev pub invariant-loop-i : goal.invariant-loop-i
invariant-loop-i l = find (λ e. same_name e.0 l.word) (drop l.i l.symbols) ≡ find (λ e. same_name e.0 l.word) l.symbols
