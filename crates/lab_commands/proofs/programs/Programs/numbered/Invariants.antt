use Rattle.std.proofs.Common.{◌≡◌, ◌++◌, map}
use Rattle.std.specs.List.{zip}
use Rattle.lab_commands.specs.Sources.{with_lines}
use Rattle.lab_commands.proofs.programs.Programs.numbered.Given as goal

-- the sources so far, and those that are left
abbrev pub invariant-loop-source : goal.invariant-loop-source
invariant-loop-source l = map (λ row. with_lines row.0 row.1.items) (zip l.self.sources.items l.self.lines.items)
    ≡ l.numbered.items ++ map (λ row. with_lines row.0 row.1.items) (zip l.source-iterator.a.rest.now l.source-iterator.b.rest.now)
