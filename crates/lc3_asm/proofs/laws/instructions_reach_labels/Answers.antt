use Rattle.lc3_asm.proofs.ReachLemmas.{reaches_label}
use Rattle.lc3_asm.proofs.laws.instructions_reach_labels.Goals as goal

pub returns : goal.returns
returns c = record { law = reaches_label }
