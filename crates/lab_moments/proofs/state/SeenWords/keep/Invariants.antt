use Rattle.std.proofs.Common.{◌≡◌, take}
use Rattle.lab_moments.specs.Words.{seen_with}
use Rattle.lab_moments.proofs.state.SeenWords.keep.Given as goal

-- the words so far are added
abbrev pub invariant-loop-word : goal.invariant-loop-word
invariant-loop-word l = l.self ≡ seen_with l.fn.self (take l.word-index l.word-items)
