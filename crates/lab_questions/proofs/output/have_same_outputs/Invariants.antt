use Rattle.std.proofs.Common.{ℕ, ◌≡◌, ◌<◌, slice_get}
use Rattle.lab_questions.specs.Requirements.{outputs}
use Rattle.lab_questions.proofs.output.have_same_outputs.Given as goal

-- the processes so far have written the same
abbrev pub invariant-loop-pid : goal.invariant-loop-pid
invariant-loop-pid l = (p : ℕ) → p < l.pid → slice_get (outputs l.world) p ≡ slice_get (outputs l.other) p
