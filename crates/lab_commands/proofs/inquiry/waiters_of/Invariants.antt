use Rattle.std.proofs.Common.{map, take}
use Rattle.lab_worlds.specs.Calls.{Alongside}
use Rattle.lab_commands.specs.Asking.{MayBe}
use Rattle.lab_commands.proofs.inquiry.waiters_of.Given as goal

-- one for each word so far
abbrev pub invariant-loop-word : goal.invariant-loop-word
invariant-loop-word l = Alongside MayBe (map (λ word. word.now) (take l.word-index l.words)) l.waiters.items
