use Rattle.std.proofs.Common.{ℕ, ◌<◌}
use Rattle.lab_conditions.specs.Conditions.{IsSemaphoreIn}
use Rattle.lab_conditions.proofs.judging.has_semaphore.Given as goal

-- none of the places so far has it
abbrev pub invariant-loop-place : goal.invariant-loop-place
invariant-loop-place l = (i : ℕ) → i < l.place → IsSemaphoreIn l.kernel i l.name l.relation l.value → ⊥
