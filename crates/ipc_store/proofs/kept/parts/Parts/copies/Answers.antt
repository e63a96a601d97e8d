use Rattle.std.proofs.Common.{arith}
use Rattle.ipc_store.proofs.NumberLemmas.{copied_more}
use Rattle.ipc_store.proofs.kept.parts.Parts.copies.Goals as goal
use Rattle.std.proofs.lemmas.Grind.{common_steps}

pub loop-number-preserved : goal.loop-number-preserved
loop-number-preserved g c = grind (arith, common_steps, copied_more)
