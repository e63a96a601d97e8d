use Rattle.lab_commands.proofs.AskedLemmas.{asked_by}
use Rattle.lab_commands.proofs.explore.searched.Goals.{in-Some+in_ok-answers-in-Some, in-None+in_ok-answers-in-None}
use Rattle.lab_commands.proofs.explore.searched.Goals as goal

pub returns-clause-asked : goal.returns-clause-asked
returns-clause-asked g c = elim c.match-inquiry.branch [
  | in-Some+in_ok-answers-in-Some w ↦ asked_by c.args.question.now c.in_ok-asked.asked c.match-inquiry.answers _ c.in_ok-asked.ensures.asked w.answers-is w.in_ok-answers-in-Some.ensures.asked
  | in-None+in_ok-answers-in-None w ↦ asked_by c.args.question.now c.in_ok-asked.asked c.match-inquiry.answers _ c.in_ok-asked.ensures.asked w.answers-is w.in_ok-answers-in-None.ensures.asked
]
