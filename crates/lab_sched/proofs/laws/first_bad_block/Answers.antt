use Rattle.lab_sched.proofs.ScheduleFaults.{first_bad_block_lem}
use Rattle.lab_sched.proofs.laws.first_bad_block.Goals as goal

pub returns : goal.returns
returns c = record { law = first_bad_block_lem }
