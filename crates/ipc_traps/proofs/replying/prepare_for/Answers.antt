use Rattle.std.proofs.Common.{rules}
use Rattle.ipc_traps.proofs.Requests.{prepared-plain}
use Rattle.ipc_traps.proofs.replying.prepare_for.Goals as goal

pub returns-in_default-clause-ok : goal.returns-in_default-clause-ok
returns-in_default-clause-ok g c = prepared-plain (g.P.Reserve.held c.args.process.now) (search rules)
