use Rattle.lab_sched.proofs.OwnSteps.{leads_locals}
use Rattle.lab_sched.proofs.trace.Trace.add_local.Goals as goal

pub returns-clause-alone : goal.returns-clause-alone
returns-clause-alone c s x y h i = leads_locals c.args.self.now.calls.items s c.args.self.now.after c.args.count x y h i
