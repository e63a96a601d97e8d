use Rattle.lc3_asm.proofs.LabelLemmas.{label_is_line_address}
use Rattle.lc3_asm.proofs.laws.labels_are_line_addresses.Goals as goal

pub returns : goal.returns
returns c = record { law = label_is_line_address }
