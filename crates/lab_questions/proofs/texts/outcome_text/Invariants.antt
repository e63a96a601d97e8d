use Rattle.std.proofs.Common.{◌≡◌, ◌++◌, string_bytes}
use Rattle.lab_texts.specs.Texts.{out_text}
use Rattle.lab_texts.specs.Rows.{texts_below}
use Rattle.lab_questions.proofs.texts.outcome_text.Given as goal

-- the lines so far are added
abbrev pub invariant-loop-pid : goal.invariant-loop-pid
invariant-loop-pid l = string_bytes l.text ≡ string_bytes l.initial.text ++ texts_below l.pid (λ pid. out_text pid l.world)
