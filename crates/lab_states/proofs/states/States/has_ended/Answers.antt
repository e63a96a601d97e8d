use Rattle.std.proofs.Common.{ap}
use Rattle.lab_states.specs.CollapsedStates.{Sharing}
use Rattle.lab_states.proofs.CollapsedStateLemmas.{ended_at}
use Rattle.lab_states.proofs.states.States.has_ended.Goals as goal

pub returns : goal.returns
returns c = record { ended = λ yes k at. ended_at c.self.inside.outputs c.self.inside.collapsed_states c.args.self.now.processes c.args.number k (ap (λ (v : Sharing). v.processes) c.self.view_is) (c.has_ended.ensures.ended yes) at }
