use Rattle.ipc_store.proofs.LikeAnswers.{stays_consistent}
use Rattle.ipc_store.proofs.laws.consistent_law.Goals as goal

pub returns : goal.returns
returns c = record { consistent = stays_consistent }
