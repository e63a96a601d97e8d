use Rattle.std.proofs.Common.{[], ◌∷◌, map}
use Rattle.std.specs.Prelude.{string_bytes}
use Rattle.lab_page.specs.Sources.{program_at, sources_shown}
use Rattle.lab_moments.proofs.ValueLemmas.{AreBelow}
use Rattle.lab_page.proofs.source.programs.Given as goal

-- the processes so far are added
abbrev pub invariant-loop-process : goal.invariant-loop-process
invariant-loop-process l = AreBelow l.programs.items l.process (λ p. program_at (map string_bytes l.names) (sources_shown l.sources) p ∷ [])
