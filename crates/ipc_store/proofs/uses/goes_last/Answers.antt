use Rattle.std.proofs.Common.{sym, ◌∙◌, ap, arith}
use Rattle.std.specs.Option.{option_map}
use Rattle.ipc_store.proofs.LastMessages.{goes_last_by, goes_last_none, entry_there}
use Rattle.ipc_store.proofs.uses.goes_last.Goals as goal

pub returns-in-Some : goal.returns-in-Some
returns-in-Some c = record {
  last = goes_last_by c.args.prio c.attr-count.result.2 c.args.queue.now.messages _ c.attr-count.ensures.ranges.ordered c.attr-count.ensures.count (omega (arith, c.if-count-eq0.false)) (sym c.in-Some.ensures.message);
}
