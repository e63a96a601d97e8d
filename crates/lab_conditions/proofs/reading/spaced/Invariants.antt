use Rattle.std.proofs.Common.{◌≡◌, ◌++◌, drop, map, string_bytes}
use Rattle.lab_conditions.specs.Written.{spaced}
use Rattle.lab_conditions.proofs.WordLemmas.{later}
use Rattle.lab_conditions.proofs.reading.spaced.Given as goal

-- the words so far stand there, and the others are left
abbrev pub invariant-loop-word : goal.invariant-loop-word
invariant-loop-word l = string_bytes l.text ++ later (drop l.word-index l.rest) ≡ spaced (map (λ word. word.now) l.words)
