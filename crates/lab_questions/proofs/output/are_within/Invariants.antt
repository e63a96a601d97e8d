use Rattle.std.proofs.Common.{ℕ, ◌≡◌, ◌<◌, false, bytes_eq, drop, length, take}
use Rattle.lab_questions.proofs.output.are_within.Given as goal

-- they stand at no place so far
abbrev pub invariant-loop-place : goal.invariant-loop-place
invariant-loop-place l = (i : ℕ) → i < l.place → bytes_eq l.bytes (take (length l.bytes) (drop i l.output)) ≡ false
