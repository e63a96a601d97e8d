use Rattle.ipc_kernel.proofs.kernel.Kernel.decide_mq_send.Goals as goal

pub returns-then-count-max-clause-possible : goal.returns-then-count-max-clause-possible
returns-then-count-max-clause-possible c = c.wait_or_again.ensures.possible c.args.self.now
