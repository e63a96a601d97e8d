use Rattle.std.proofs.Common.{string_bytes}
use Rattle.lab_questions.proofs.ClaimLemmas.{says}
use Rattle.lab_questions.proofs.answers.said_of.Goals as goal

pub returns-clause-says : goal.returns-clause-says
returns-clause-says c = says c.args.walks c.args.show c.args.found.now c.args.answers.now (string_bytes c.in_ok-told.told.text) c.in_ok-told.ensures.text
