use Rattle.std.proofs.Common.{◌≡◌, ◌++◌, flat_map, string_bytes, take}
use Rattle.lab_questions.specs.Private.Rows.{unmet_view}
use Rattle.lab_questions.specs.Texts.{unmet_lines}
use Rattle.lab_questions.proofs.called.push_unmets.Given as goal

-- the lines so far are added
abbrev pub invariant-loop-unmet : goal.invariant-loop-unmet
invariant-loop-unmet l = string_bytes l.text ≡ string_bytes l.initial.text ++ flat_map (λ u. unmet_lines (unmet_view u)) (take l.unmet-index l.unmet-items)
