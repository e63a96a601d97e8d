use Rattle.std.proofs.Common.{◌∙◌, ap}
use Rattle.lab_states.specs.Private.Outputs.{outputs_of}
use Rattle.lab_states.proofs.PieceLemmas.{no_pieces}
use Rattle.lab_states.proofs.outputs.Outputs.new.Goals as goal

pub returns : goal.returns
returns c = record { empty = ap outputs_of c.new.ensures.items ∙ no_pieces }
