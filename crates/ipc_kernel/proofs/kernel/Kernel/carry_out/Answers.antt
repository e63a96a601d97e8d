use Rattle.ipc_kernel.proofs.kernel.Kernel.carry_out.Goals as goal
use Rattle.std.proofs.Common.{rules}

pub returns-in-Receives-clause-outcome : goal.returns-in-Receives-clause-outcome
returns-in-Receives-clause-outcome c = rw c.in-Receives.is (c.receive.ensures.outcome c.args.pid)

pub returns-in_ok-change-in-Answered-clause-outcome : goal.returns-in_ok-change-in-Answered-clause-outcome
returns-in_ok-change-in-Answered-clause-outcome c = search (rules, c.in-Answered.is, c.reply.ensures.value, c.in_ok-change-in-Answered.ensures.ok, c.in-Answered.reply)
