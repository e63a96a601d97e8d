use Rattle.std.proofs.Common.{refl}
use Rattle.lab_explore.specs.Visits.{start_of}
use Rattle.lab_worlds.proofs.FairLassos.{fair_lasso}
use Rattle.lab_explore.proofs.reached.Visited.lasso_along.Goals as goal

pub returns : goal.returns
returns c =
    let walk = c.in_ok-walk.walk in
    record {
      lasso = fair_lasso (start_of c.args.self.now) c.in_ok-other.other.world walk (record { schedule = walk.schedule; steps = c.in_ok-steps.steps }) c.in_ok-walk.ensures.walk refl
          (c.are_alike.ensures.alike c.if-not-are_alike.false) c.in_ok-steps.ensures.segment c.in_ok-steps.ensures.returns;
    }
