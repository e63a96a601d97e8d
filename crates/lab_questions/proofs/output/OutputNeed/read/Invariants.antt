use Rattle.std.proofs.Common.{ℕ, ◌≡◌, ◌≤◌, length}
use Rattle.std.specs.Prelude.{option_map}
use Rattle.lab_questions.specs.Written.{parts_read, need_read, more_in, need_in}
use Rattle.lab_questions.specs.Private.Readings.{joined}
use Rattle.lab_questions.proofs.output.OutputNeed.read.Given as goal

-- the parts so far, with those that are left
abbrev pub invariant-loop-rest : goal.invariant-loop-rest
invariant-loop-rest l =
    (n : ℕ) × (length l.rest ≤ n) × (option_map (joined (need_read l.alternatives.items) (parts_read l.parts.items)) (more_in n l.rest) ≡ need_in l.text)

abbrev pub decreases-loop-rest : goal.decreases-loop-rest
decreases-loop-rest l = length l.rest
