use Rattle.lab_questions.proofs.ToldEnds.{each_told_once}
use Rattle.lab_questions.proofs.laws.each_text_is_told_once.Goals as goal

pub returns : goal.returns
returns c = record { law = each_told_once }
