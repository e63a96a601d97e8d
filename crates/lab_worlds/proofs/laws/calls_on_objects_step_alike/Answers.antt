use Rattle.lab_worlds.proofs.StepsOnObjects.{steps_by_operand}
use Rattle.lab_worlds.proofs.laws.calls_on_objects_step_alike.Goals as goal

pub returns-clause-law : goal.returns-clause-law
returns-clause-law c = steps_by_operand
