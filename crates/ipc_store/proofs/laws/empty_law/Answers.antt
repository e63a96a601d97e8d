use Rattle.ipc_store.proofs.Consistents.{consistent_empty}
use Rattle.ipc_store.proofs.laws.empty_law.Goals as goal

pub returns : goal.returns
returns c = record { consistent = consistent_empty }
