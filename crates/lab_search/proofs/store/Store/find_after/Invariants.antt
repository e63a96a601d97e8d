use Rattle.lab_search.proofs.store.Store.find_after.Given as goal

abbrev pub decreases-loop-number : goal.decreases-loop-number
decreases-loop-number l = l.number
