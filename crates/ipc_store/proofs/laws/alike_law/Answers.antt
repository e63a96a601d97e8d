use Rattle.ipc_store.proofs.LikeAnswers.{answers_alike}
use Rattle.ipc_store.proofs.laws.alike_law.Goals as goal

pub returns : goal.returns
returns c = record { alike = answers_alike }
