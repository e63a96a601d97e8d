use Rattle.std.proofs.Common.{All, Contains, take}
use Rattle.lab_questions.proofs.bases.first_in.Given as goal

-- none so far is among the others
abbrev pub invariant-loop-basis : goal.invariant-loop-basis
invariant-loop-basis l = All (λ b. Contains l.others b → ⊥) (take l.basis-index l.bases)
