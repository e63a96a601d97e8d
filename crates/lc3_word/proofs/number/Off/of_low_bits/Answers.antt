use Rattle.std.proofs.Common.{rules}
use Rattle.std.proofs.lemmas.Int.{to_z-of_z}
use Rattle.lc3_word.proofs.Signed.{signed_value-IsSigned, IsSigned-fits, word-signed}
use Rattle.lc3_word.proofs.number.Off.of_low_bits.Goals as goal

pub invariant_of-result : goal.invariant_of-result
invariant_of-result g c = search (rules, signed_value-IsSigned, IsSigned-fits, word-signed, to_z-of_z)
