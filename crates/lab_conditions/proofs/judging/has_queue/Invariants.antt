use Rattle.std.proofs.Common.{ℕ, ◌<◌}
use Rattle.lab_conditions.specs.Conditions.{IsQueueIn}
use Rattle.lab_conditions.proofs.judging.has_queue.Given as goal

-- none of the places so far has it
abbrev pub invariant-loop-place : goal.invariant-loop-place
invariant-loop-place l = (i : ℕ) → i < l.place → IsQueueIn l.kernel i l.name l.relation l.value → ⊥
