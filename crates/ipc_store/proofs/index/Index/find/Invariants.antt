use Rattle.ipc_store.proofs.index.Index.find.Given as goal

abbrev pub decreases-loop-number : goal.decreases-loop-number
decreases-loop-number g l = l.number
