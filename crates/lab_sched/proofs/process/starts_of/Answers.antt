use Rattle.std.proofs.Common.{arith}
use Rattle.std.proofs.lemmas.List.Elements.{All-push}
use Rattle.lab_sched.proofs.WorldLemmas.{started_more}
use Rattle.lab_sched.proofs.process.starts_of.Goals as goal
use Rattle.std.proofs.lemmas.Grind.{common_steps}

pub loop-program-preserved : goal.loop-program-preserved
loop-program-preserved c = grind (arith, common_steps, started_more, All-push)
