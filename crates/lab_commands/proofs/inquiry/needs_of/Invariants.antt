use Rattle.std.proofs.Common.{flat_map, take}
use Rattle.lab_worlds.specs.Calls.{Alongside}
use Rattle.lab_commands.specs.Asking.{IsRequired, output_if}
use Rattle.lab_commands.proofs.inquiry.needs_of.Given as goal

-- what the words so far require
abbrev pub invariant-loop-word : goal.invariant-loop-word
invariant-loop-word l = Alongside IsRequired (flat_map (λ word. output_if word.now) (take l.word-index l.words)) l.needs.items
