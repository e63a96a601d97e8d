use Rattle.lab_debug.proofs.LawLemmas.{steps_lead_first, steps_lead_on}
use Rattle.lab_debug.proofs.laws.steps_lead_to_the_world.Goals as goal

pub returns : goal.returns
returns c = record { first = steps_lead_first; on = steps_lead_on }
