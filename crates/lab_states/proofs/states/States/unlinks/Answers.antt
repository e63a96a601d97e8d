use Rattle.std.proofs.Common.{ap}
use Rattle.lab_states.specs.CollapsedStates.{Sharing}
use Rattle.lab_states.proofs.KeptNames.{all_whole_keep}
use Rattle.lab_states.proofs.states.States.unlinks.Goals as goal

pub returns : goal.returns
returns c = record {
  none = λ is. all_whole_keep c.self.inside.outputs c.self.inside.collapsed_states c.args.self.now.processes (ap (λ (v : Sharing). v.processes) c.self.view_is) (c.unlinks.ensures.none is);
}
