use Rattle.std.proofs.Common.{◌≡◌, flat_map, map, take}
use Rattle.lab_questions.specs.CallWords.{comma_apart}
use Rattle.lab_questions.proofs.calling.words_in.Given as goal

-- the words so far
abbrev pub invariant-loop-word : goal.invariant-loop-word
invariant-loop-word l = map (λ w. w.now) l.words.items ≡ flat_map comma_apart (take l.word-index (map (λ w. w.now) l.word-items))
