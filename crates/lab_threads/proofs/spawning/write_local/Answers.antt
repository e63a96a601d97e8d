use Rattle.lab_threads.proofs.spawning.write_local.Goals as goal

pub returns-clause-alone : goal.returns-clause-alone
returns-clause-alone g c x y local s before = c.add_local.ensures.alone s x y before local
