use Rattle.lab_commands.proofs.HoldsLemmas.{told_holds}
use Rattle.lab_commands.proofs.check.tell_ends.Goals as goal

pub returns-clause-holds : goal.returns-clause-holds
returns-clause-holds g c = told_holds c.args.search.now c.complain.result c.complain.ensures.none
