use Rattle.std.proofs.Common.{[], ◌∷◌}
use Rattle.std.specs.Prelude.{slice_get}
use Rattle.lab_page.specs.Runs.{output_of}
use Rattle.lab_moments.proofs.ValueLemmas.{AreBelow}
use Rattle.lab_page.proofs.moments.outputs.Given as goal

-- what the processes so far have written is added
abbrev pub invariant-loop-pid : goal.invariant-loop-pid
invariant-loop-pid l = AreBelow l.outputs.items l.pid (λ p. output_of (slice_get l.world.processes p) ∷ [])
