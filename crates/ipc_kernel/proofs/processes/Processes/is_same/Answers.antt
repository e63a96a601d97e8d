use Rattle.std.proofs.Common.{rules}
use Rattle.ipc_kernel.proofs.TableCopies.{tables_decides}
use Rattle.ipc_kernel.proofs.processes.Processes.is_same.Goals as goal

pub returns : goal.returns
returns c = search (rules, tables_decides)
