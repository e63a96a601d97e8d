use Rattle.std.proofs.Common.{◌≡◌, flat_map, take}
use Rattle.lab_questions.specs.Bases.{bases_asked}
use Rattle.lab_questions.proofs.bases.all_bases.Given as goal

-- the bases of the conditions so far
abbrev pub invariant-loop-condition : goal.invariant-loop-condition
invariant-loop-condition l = l.bases.items ≡ flat_map bases_asked (take l.condition-index l.conditions)
