use Rattle.std.proofs.Common.{rules}
use Rattle.std.proofs.lemmas.Option.{slice_get_read}
use Rattle.lab_threads.proofs.reports.find.Goals as goal

pub returns-then-eq-2-clause-found : goal.returns-then-eq-2-clause-found
returns-then-eq-2-clause-found c = search (rules, slice_get_read, c.args.calls.now, c.in_ok-told.ensures.lookup, c.in_ok-told.told.now, c.args.at)
