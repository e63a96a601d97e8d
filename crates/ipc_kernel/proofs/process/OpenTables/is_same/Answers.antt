use Rattle.ipc_kernel.proofs.TableCopies.{process_read}
use Rattle.ipc_kernel.proofs.process.OpenTables.is_same.Goals as goal

pub returns : goal.returns
returns c = record { same = process_read c.args.self.now c.args.other.now c.eq.result c.eq.ensures }
