use Rattle.std.proofs.Common.{◌+◌, ◌-◌, arith}
use Rattle.lab_states.specs.declared.outputs.TheConstants.{PIECE}
use Rattle.lab_states.proofs.PieceLemmas.{take_parts}
use Rattle.lab_states.proofs.outputs.piece_from.Goals as goal

pub returns-clause-bytes : goal.returns-clause-bytes
returns-clause-bytes c =
    take_parts c.args.output.now c.args.at PIECE ((c.args.at + PIECE) - c.args.at) c.copy_from_slice.new.self (omega arith) c.copy_from_slice.ensures.after
