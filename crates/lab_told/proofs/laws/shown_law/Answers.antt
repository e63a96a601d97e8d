use Rattle.lab_told.proofs.AnswerLemmas.{shows_answer, shows_refusal}
use Rattle.lab_told.proofs.laws.shown_law.Goals as goal

pub returns : goal.returns
returns c = record { answer = shows_answer; refusal = shows_refusal }
