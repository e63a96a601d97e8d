-- Each call leaves a kernel settled.
use Rattle.ipc_kernel.specs.Operands.{StaysSettled}
use Rattle.ipc_kernel.proofs.LawfulAnswers.{answer_settled}

pub stays_settled : StaysSettled
stays_settled k p c = answer_settled k p c
