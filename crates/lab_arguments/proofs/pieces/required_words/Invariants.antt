use Rattle.std.proofs.Common.{◌≡◌, flat_map, map, take}
use Rattle.lab_arguments.specs.Pieces.{words_of}
use Rattle.lab_arguments.proofs.pieces.required_words.Given as goal

-- those of the values so far
abbrev pub invariant-loop-value : goal.invariant-loop-value
invariant-loop-value l = map (λ p. p.now) l.found.items ≡ flat_map words_of (take l.value-index (map (λ v. v.now) l.values))
