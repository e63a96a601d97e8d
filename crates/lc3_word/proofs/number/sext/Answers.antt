use Rattle.lc3_word.proofs.Shifts.{sext_shift}
use Rattle.lc3_word.proofs.number.sext.Goals as goal
use Rattle.std.proofs.Common.{rules}

pub returns : goal.returns
returns g c = search (rules, sext_shift)
