use Rattle.std.proofs.Common.{ap, sym}
use Rattle.lab_states.specs.CollapsedStates.{Sharing}
use Rattle.lab_states.proofs.CollapsedStateLemmas.{silent_at}
use Rattle.lab_states.proofs.states.States.collapsed.Goals as goal

pub returns : goal.returns
returns c = record { state = silent_at c.self.inside.outputs c.self.inside.collapsed_states c.args.self.now.processes c.args.number c.in_ok-collapsed.collapsed.now (ap (λ (v : Sharing). v.processes) c.self.view_is) (sym c.in_ok-collapsed.ensures.state) }
