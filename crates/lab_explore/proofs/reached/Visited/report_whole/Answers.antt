use Rattle.std.proofs.Common.{Some}
use Rattle.lab_explore.specs.Visits.{start_of}
use Rattle.lab_explore.proofs.Explorations.{explored_met}
use Rattle.lab_explore.proofs.reached.Visited.report_whole.Goals as goal

pub returns-clause-explored : goal.returns-clause-explored
returns-clause-explored g c =
    explored_met (start_of c.args.self.now) c.args.nevers.now c.args.fair c.in_ok-found.found (Some c.in_ok-met.met) c.in_ok-found.ensures.explored
