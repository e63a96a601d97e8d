use Rattle.std.proofs.Common.{◌≡◌, flat_map, map, take}
use Rattle.lab_questions.specs.Private.Rows.{unmet_view, told_row}
use Rattle.lab_questions.proofs.called.unmets_in.Given as goal

-- those of the answers so far that aren't so
abbrev pub invariant-loop-answer : goal.invariant-loop-answer
invariant-loop-answer l = map unmet_view l.unmets.items ≡ flat_map (told_row l.part l.ends) (take l.answer-index l.answers)
