use Rattle.std.proofs.Common.{All, take}
use Rattle.lab_commands.specs.Asking.{IsAsked}
use Rattle.lab_commands.proofs.inquiry.nevers_of.Given as goal

-- the words so far are asked
abbrev pub invariant-loop-word : goal.invariant-loop-word
invariant-loop-word l = All (λ word. IsAsked l.nevers.items word.now) (take l.word-index l.words)
