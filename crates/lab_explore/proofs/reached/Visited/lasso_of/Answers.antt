use Rattle.lab_explore.specs.Visits.{start_of}
use Rattle.lab_explore.proofs.Cycles.{walk_lasso}
use Rattle.lab_explore.proofs.reached.Visited.lasso_of.Goals as goal

pub returns : goal.returns
returns c =
    let first = c.in_ok-walk.walk in
    let told = c.in_ok-go_lasso.ensures in
    record {
      lasso = walk_lasso (start_of c.args.self.now) first c.go_lasso.new.walk c.args.self.now.store c.args.cycle.now.at c.in_ok-walk.ensures.walk c.in_ok-walk.ensures.row (told.walk first.world c.at-round.ensures.walk)
          told.row told.some;
    }
