use Rattle.std.proofs.Common.{take}
use Rattle.lab_questions.specs.Private.Presences.{AreNamed}
use Rattle.lab_questions.proofs.watching.named_in.Given as goal

-- the bases so far are there, and no others, in the order of their first names
abbrev pub invariant-loop-basis : goal.invariant-loop-basis
invariant-loop-basis l = AreNamed l.basis-items (take l.basis-index l.basis-items) l.bases.items
