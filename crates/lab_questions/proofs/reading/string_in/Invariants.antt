use Rattle.std.proofs.Common.{◌≡◌, ◌≤◌, length}
use Rattle.std.specs.Prelude.{option_map}
use Rattle.lab_questions.specs.Written.{string_in}
use Rattle.lab_questions.specs.Private.Readings.{behind_these}
use Rattle.lab_questions.proofs.reading.string_in.Given as goal

-- the characters so far stand before those of the rest
abbrev pub invariant-loop-rest : goal.invariant-loop-rest
invariant-loop-rest l =
    (option_map (behind_these l.bytes.items) (string_in l.rest) ≡ string_in l.text) × (length l.rest ≤ length l.text)

abbrev pub decreases-loop-rest : goal.decreases-loop-rest
decreases-loop-rest l = length l.rest
