use Rattle.std.proofs.Common.{◌≡◌, ◌++◌, List, take}
use Rattle.lab_conditions.specs.declared.never.Never.{Never}
use Rattle.lab_worlds.specs.Calls.{Alongside}
use Rattle.lab_questions.specs.Private.Presences.{AsksFor}
use Rattle.lab_questions.proofs.watching.watch.Given as goal

-- a condition for each basis so far is added
abbrev pub invariant-loop-basis : goal.invariant-loop-basis
invariant-loop-basis l =
    (presences : List Never) × (l.conditions.items ≡ l.initial.conditions.items ++ presences) × Alongside AsksFor (take l.basis-index l.basis-items) presences
