-- What isn't so, by what was asked, and the commas of a list.
use Rattle.std.specs.Prelude.{ℕ, Bool, not, if◌then◌else◌, nat_lt, List, [], codes, option_map}
use Rattle.lab_worlds.specs.declared.ends.End.{End}
use Rattle.lab_questions.specs.declared.answers.Answer.{Answer}
use Rattle.lab_questions.specs.declared.answers.Answers.{Answers}
use Rattle.lab_questions.specs.declared.asked.Part.{Part}
use Rattle.lab_questions.specs.declared.asked.Part.TheVariants.{Required, Never}
use Rattle.lab_questions.specs.declared.asked.Question.{Question}
use Rattle.lab_questions.specs.declared.called.Unmet.{Unmet as Shown}
use Rattle.lab_questions.specs.Asked.{is_never}
use Rattle.lab_questions.specs.Findings.{unmet_of}
use Rattle.lab_questions.specs.Texts.{Unmet, unmet_if, unmet_among}

-- what is told of something that isn't so
abbrev pub unmet_view : Shown → Unmet
unmet_view u = record { never = u.never; head = u.head.now; asked = u.asked.now; first = option_map (λ s. s.0.now) u.first; steps = u.steps.0.now }

-- whether a question is one of those that are told together
abbrev pub is_in : Part → Question → Bool
is_in Required q = not (is_never q)
is_in Never q = is_never q

-- what is asked there, if it isn't so
abbrev pub told_row : Part → List End → Answer → List Unmet
told_row part ends a = unmet_if (is_in part) ends a

-- all that isn't so of those
abbrev pub unmet_told : Part → List End → List Answer → List Unmet
unmet_told part ends answers = unmet_among (is_in part) ends answers

-- the same of the answers of a search
abbrev pub unmets_of : Part → Answers → List Unmet
unmets_of part answers = unmet_of (is_in part) answers

-- what stands before the value in a place
abbrev pub comma_before : ℕ → List ℕ
comma_before place = if nat_lt 0 place then codes "," else []
