use Rattle.lab_threads.proofs.spawning.WorkerLog.add_call.Goals as goal

pub returns-clause-alone : goal.returns-clause-alone
returns-clause-alone c x y told s before = c.add_call.ensures.alone s x y before told
