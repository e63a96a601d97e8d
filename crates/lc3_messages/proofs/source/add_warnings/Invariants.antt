use Rattle.std.proofs.Common.{◌≡◌, ◌++◌, map, take}
use Rattle.lc3_messages.specs.Counts.{without}
use Rattle.lc3_messages.specs.Told.{finding_of_warning}
use Rattle.lc3_messages.proofs.source.add_warnings.Given as goal

-- the warnings so far, but for those of the names
abbrev pub invariant-loop-warning : goal.invariant-loop-warning
invariant-loop-warning l =
    l.found.items ≡ l.initial.found.items ++ map finding_of_warning (without (map (λ name. name.now) l.names) (take l.warning-index l.warnings))
