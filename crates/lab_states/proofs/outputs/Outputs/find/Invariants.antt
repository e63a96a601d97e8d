use Rattle.lab_states.proofs.outputs.Outputs.find.Given as goal

abbrev pub decreases-loop-number : goal.decreases-loop-number
decreases-loop-number l = l.number
