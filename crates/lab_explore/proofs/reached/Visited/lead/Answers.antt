use Rattle.lab_explore.specs.Visits.{start_of}
use Rattle.lab_explore.proofs.reached.Visited.lead.Goals as goal

pub returns : goal.returns
returns c = record { walk = c.in_ok-go_walk_parts.ensures.walk (start_of c.args.self.now) c.in_ok-walk.ensures.walk }
