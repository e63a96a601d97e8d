use Rattle.lab_explore.specs.Visits.{start_of}
use Rattle.lab_explore.proofs.reached.Visited.walk_to.Goals as goal

pub returns-clause-walk : goal.returns-clause-walk
returns-clause-walk c =
    let start = start_of c.args.self.now in
    c.in_ok-go_local.ensures.walk start (c.in_ok-local.ensures.walk start c.in_ok-walk.ensures.walk)
