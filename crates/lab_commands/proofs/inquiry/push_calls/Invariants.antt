use Rattle.std.proofs.Common.{◌++◌, Bool, List, ℕ, flat_map, take}
use Rattle.lab_worlds.specs.Calls.{Alongside}
use Rattle.lab_commands.specs.Asking.{IsSought, call_if}
use Rattle.lab_commands.proofs.inquiry.push_calls.Given as goal

-- what the words so far ask stands behind what was asked
abbrev pub invariant-loop-word : goal.invariant-loop-word
invariant-loop-word l =
    (before : List (Bool × List ℕ)) → Alongside IsSought before l.initial.calls.items
    → Alongside IsSought (before ++ flat_map (λ word. call_if l.never word.now) (take l.word-index l.words)) l.calls.items
