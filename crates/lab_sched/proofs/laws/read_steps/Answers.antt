use Rattle.lab_sched.proofs.ScheduleFaults.{read_steps_lem}
use Rattle.lab_sched.proofs.laws.read_steps.Goals as goal

pub returns : goal.returns
returns c = record { law = read_steps_lem }
