use Rattle.lc3_asm.proofs.FirstFaults.{fault_is_first}
use Rattle.lc3_asm.proofs.laws.fault_is_first.Goals as goal

pub returns : goal.returns
returns c = record { law = fault_is_first }
