use Rattle.lab_explore.specs.Visits.{start_of}
use Rattle.lab_explore.proofs.reached.Visited.row_end.Goals as goal

pub returns-clause-end : goal.returns-clause-end
returns-clause-end c =
    let start = start_of c.args.self.now in
    c.in_ok-end.ensures.end start (c.in_ok-go_to_rest.ensures.walk start (c.in_ok-local.ensures.walk start c.in_ok-walk.ensures.walk))
