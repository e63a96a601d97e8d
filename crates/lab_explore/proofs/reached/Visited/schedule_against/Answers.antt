use Rattle.lab_explore.specs.Visits.{start_of}
use Rattle.lab_explore.proofs.JudgedRows.{leads_to_step}
use Rattle.lab_explore.proofs.reached.Visited.schedule_against.Goals as goal

pub returns-clause-breaks : goal.returns-clause-breaks
returns-clause-breaks c =
    let start = start_of c.args.self.now in
    let before = c.in_ok-go_on.ensures.walk start c.in_ok-walk.ensures.walk in
    leads_to_step c.args.never.now start c.go_on.new.self c.go_against.new.self c.in-Some.turn.pid before (c.in_ok-go_against.ensures.walk start before) c.in_ok-go_against.ensures.breaks c.in_ok-go_against.ensures.steps
