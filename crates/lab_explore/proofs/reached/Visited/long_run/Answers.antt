use Rattle.std.proofs.Common.{subst, sym}
use Rattle.lab_sched.specs.Schedules.{steps_of}
use Rattle.lab_worlds.specs.Met.{IsLongRun}
use Rattle.lab_explore.proofs.reached.Visited.long_run.Goals as goal

pub returns : goal.returns
returns c =
    let walk = c.in_ok-walk.walk in
    let told = c.in_ok-walk.ensures.walk in
    record { long = (steps_of walk.schedule, told.effective, subst (λ w. IsLongRun w c.args.most c.in_ok-run.run') (sym told.leads) c.in_ok-run.ensures.long) }
