use Rattle.lab_search.proofs.store.Moves.find.Given as goal

abbrev pub decreases-loop-number : goal.decreases-loop-number
decreases-loop-number l = l.number
