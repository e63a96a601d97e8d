use Rattle.std.proofs.Common.{rules}
use Rattle.std.proofs.lemmas.Option.{IfSome_then}
use Rattle.lab_threads.proofs.Merges.{item_found}
use Rattle.lab_threads.proofs.reports.item.Goals as goal

pub returns-clause-item : goal.returns-clause-item
returns-clause-item c = search (rules, IfSome_then, item_found, c.find.result, c.find.ensures.found, c.args.workers.now, c.args.next.now, c.args.entry.now, c.index-workers-entry.result, c.as_slice-calls.result.now, c.as_slice-calls.ensures.value)
