use Rattle.lc3_asm.proofs.ReachLemmas.{fill_holds_address}
use Rattle.lc3_asm.proofs.laws.fills_hold_addresses.Goals as goal

pub returns : goal.returns
returns c = record { law = fill_holds_address }
