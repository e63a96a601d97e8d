use Rattle.std.proofs.Common.{ap}
use Rattle.lab_states.specs.CollapsedStates.{Sharing}
use Rattle.lab_states.proofs.CollapsedStateLemmas.{stands_at}
use Rattle.lab_states.proofs.states.States.call.Goals as goal

pub returns : goal.returns
returns c =
    let s = c.in_ok-call.ensures.stands in
    record { stands = stands_at c.self.inside.outputs c.self.inside.collapsed_states c.args.self.now.processes c.args.number s.0 c.in_ok-call.call.now (ap (λ (v : Sharing). v.processes) c.self.view_is) s.1 s.2 }
