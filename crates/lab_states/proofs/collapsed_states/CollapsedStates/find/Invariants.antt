use Rattle.lab_states.proofs.collapsed_states.CollapsedStates.find.Given as goal

abbrev pub decreases-loop-number : goal.decreases-loop-number
decreases-loop-number l = l.number
