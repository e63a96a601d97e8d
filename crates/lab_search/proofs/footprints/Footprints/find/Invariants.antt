use Rattle.lab_search.proofs.footprints.Footprints.find.Given as goal

abbrev pub decreases-loop-number : goal.decreases-loop-number
decreases-loop-number l = l.number
